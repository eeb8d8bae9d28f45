pub mod Origins
pub mod Entries
pub mod Chains
pub mod Rules
pub mod Written
pub mod Claims
