pub mod Walks
pub mod Counts
pub mod Listed
pub mod Orders
pub mod Values
pub mod Reordered
