pub mod Noted
pub mod Requests
pub mod Values
