pub mod Pairs
pub mod Systems
pub mod Claims
pub mod Laws
pub mod Faults
pub mod Answers
pub mod Refusals
