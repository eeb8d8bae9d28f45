pub mod Copied
pub mod Deeds
pub mod Doors
