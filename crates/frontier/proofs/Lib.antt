pub mod Bags
pub mod EntryLists
pub mod Flags
pub mod Keying
pub mod Live
pub mod Members
pub mod Resumed
pub mod Taking
