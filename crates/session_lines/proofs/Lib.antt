mod Fieldwise
pub mod Worded
mod Grouped
mod Numbered
mod Staged
mod Naming
mod Tabled
pub mod Drafting
mod Bytewise
