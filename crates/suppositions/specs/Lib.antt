pub mod Supposing
