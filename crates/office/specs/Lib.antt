pub mod Offices
pub mod Left
pub mod Works
