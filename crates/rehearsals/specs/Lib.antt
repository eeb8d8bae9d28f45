pub mod Rehearsed
pub mod Texts
pub mod Joint
