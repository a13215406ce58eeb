pub mod Words
pub mod Text
pub mod Limits
pub mod WriteFaults
pub mod Offers
pub mod Due
pub mod Stages
pub mod ReadFaults
