pub mod Joined
pub mod Items
pub mod OfTables
pub mod OfPieces
pub mod OfChunks
pub mod OfWords
