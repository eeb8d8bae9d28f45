pub mod MemDisks
pub mod Pieces
pub mod Steps
pub mod Tearing
pub mod Tries
