mod Reached
pub mod Dealt
pub mod Looks
pub mod Sends
mod Shelved
