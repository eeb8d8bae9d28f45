pub mod Agreed
pub mod Kept
pub mod Wanted
