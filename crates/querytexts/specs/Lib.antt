pub mod Once
pub mod Batch
pub mod Table
pub mod Reach
pub mod Route
