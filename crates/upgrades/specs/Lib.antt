pub mod Counterparts
pub mod Laws
pub mod Maps
pub mod Ordered
pub mod Renewing
pub mod Upgrading
