pub mod Reports
pub mod Fetched
pub mod Texts
pub mod Analysed
pub mod Steps
pub mod Written
