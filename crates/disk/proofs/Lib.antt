pub mod GatedPages
pub mod Gates
pub mod Overwritten
mod Places
mod OnRecord
pub mod Steps
mod Turns
mod Undone
