pub mod Causes
pub mod Files
pub mod MemFiles
pub mod Noted
pub mod Opened
pub mod SystemFiles
pub mod Whole
