pub mod Cutting
pub mod Failures
pub mod Living
pub mod Rehearsing
pub mod Running
