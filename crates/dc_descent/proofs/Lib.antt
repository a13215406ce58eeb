pub mod Rules
pub mod Compared
pub mod Positions
pub mod Lists
pub mod Naming
pub mod Saying
pub mod Judged
