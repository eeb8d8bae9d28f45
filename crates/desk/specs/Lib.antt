pub mod Leaves
pub mod Openings
pub mod Readings
pub mod Repairs
pub mod Shares
pub mod Shelves
pub mod States
pub mod Turns
