pub mod Rules
pub mod Held
pub mod Taken
pub mod Reading
