pub mod Calls
pub mod Headline
pub mod Keeping
pub mod Laws
pub mod LifeInRun
pub mod Lives
pub mod Machine
pub mod Runs
