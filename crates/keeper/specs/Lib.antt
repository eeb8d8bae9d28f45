pub mod Accepting
pub mod Keeping
pub mod Leading
pub mod Parts
