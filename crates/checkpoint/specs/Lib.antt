pub mod Loading
pub mod Frozen
pub mod Writing
