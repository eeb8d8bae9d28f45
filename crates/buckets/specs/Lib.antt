pub mod Lists
pub mod Places
pub mod Queue
pub mod Rings
pub mod Tables
