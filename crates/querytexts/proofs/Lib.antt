pub mod Batched
pub mod Unanswered
pub mod Tabled
pub mod Reached
pub mod Refusing
pub mod Routed
