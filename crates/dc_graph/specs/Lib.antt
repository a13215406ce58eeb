pub mod Labels
pub mod Pieces
pub mod Walks
pub mod Laws
