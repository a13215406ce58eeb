pub mod Points
pub mod Stated
pub mod Shown
pub mod Flags
pub mod Laws
