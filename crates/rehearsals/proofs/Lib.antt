pub mod JointRead
pub mod NewRuns
pub mod BrokenOff
pub mod TextsRun
