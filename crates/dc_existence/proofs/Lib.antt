pub mod Samples
pub mod Sound
pub mod Forms
pub mod Wants
pub mod Told
pub mod Answered
pub mod Named
pub mod Spared
