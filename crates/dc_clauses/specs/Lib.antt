pub mod Steps
pub mod Lines
pub mod Hyps
pub mod Sides
pub mod Lent
pub mod Mains
pub mod Items
