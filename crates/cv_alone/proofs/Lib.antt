pub mod Patience
pub mod Records
pub mod Sweeps
pub mod Turns
