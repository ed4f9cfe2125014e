pub mod Few
pub mod Moments
