pub mod Walks
pub mod Stages
pub mod Counts
pub mod Listed
pub mod Values
