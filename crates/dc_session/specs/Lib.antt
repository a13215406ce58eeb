pub mod Session
pub mod Made
pub mod Refusals
pub mod Answers
pub mod Laws
