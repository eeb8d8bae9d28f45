pub mod ScriptGroups
pub mod ScriptLines
pub mod ScriptPicks
pub mod ScriptSteps
pub mod ScriptStops
pub mod ScriptBeyond
pub mod ScriptAlike
