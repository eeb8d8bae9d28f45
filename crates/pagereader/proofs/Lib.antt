pub mod Calls
pub mod Outcomes
pub mod Runs
pub mod Unchanged
