pub mod Appended
pub mod Blocks
pub mod Changes
pub mod Groups
pub mod Places
