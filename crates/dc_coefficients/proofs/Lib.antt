pub mod Insertions
pub mod Lists
pub mod MonoLaws
pub mod Rows
pub mod Walks
