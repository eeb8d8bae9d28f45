pub mod Failures
pub mod Kinds
