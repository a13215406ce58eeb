mod Neighbours
mod Slots
mod Inserted
mod Removed
pub mod Numbers
mod Views
