pub mod Guided
pub mod Reach
pub mod Repair
pub mod Search
pub mod Sifting
pub mod Stepping
pub mod Tentative
pub mod Words
