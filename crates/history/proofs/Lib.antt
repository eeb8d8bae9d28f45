pub mod Beginnings
pub mod Chains
pub mod Adding
