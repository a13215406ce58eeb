pub mod Parts
pub mod Replay
pub mod Ends
pub mod Laws
pub mod Tests
pub mod Tails
