pub mod Rules
pub mod Showing
