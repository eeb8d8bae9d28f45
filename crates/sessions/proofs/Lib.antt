mod Answered
mod Based
mod Said
mod Routed
mod Supposed
mod Going
pub mod Lasting
