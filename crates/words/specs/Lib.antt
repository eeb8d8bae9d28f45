pub mod Pipes
pub mod Words
