pub mod Opening
pub mod Pausing
pub mod Ports
pub mod Raising
pub mod Recording
pub mod Runs
pub mod Spending
pub mod Waiting
