pub mod Chunked
pub mod Noting
pub mod Words
