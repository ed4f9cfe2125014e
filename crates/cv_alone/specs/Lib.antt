pub mod Going
pub mod Recorded
pub mod Resting
pub mod Turns
