pub mod Given
pub mod Parts
pub mod Turns
pub mod Ending
pub mod Paid
pub mod Owed
pub mod Walks
pub mod States
