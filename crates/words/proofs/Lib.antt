mod InputTwice
mod Parts
pub mod PipeNames
