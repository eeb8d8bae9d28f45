pub mod Cut
pub mod Failing
pub mod Halts
pub mod LifeKept
pub mod LivesInRun
pub mod Runs
pub mod Stopped
pub mod Stops
