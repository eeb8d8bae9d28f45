pub mod Cached
pub mod Told
