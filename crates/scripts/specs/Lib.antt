pub mod ScriptTexts
pub mod ScriptReading
