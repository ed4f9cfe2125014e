pub mod Crossing
pub mod Causes
