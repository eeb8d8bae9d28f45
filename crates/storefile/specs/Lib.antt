pub mod StoreFile
pub mod Judging
pub mod Standing
pub mod Laws
pub mod Examples
pub mod Vectors
