pub mod Entries
pub mod Flags
pub mod Frontier
pub mod Keyed
pub mod Live
pub mod Remembered
