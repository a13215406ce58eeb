pub mod Prunes
pub mod Shown
pub mod Keeps
pub mod Lent
pub mod Answers
pub mod Laws
