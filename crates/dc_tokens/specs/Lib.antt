pub mod Spelling
pub mod Pieces
pub mod Texts
pub mod Lines
