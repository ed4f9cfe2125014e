pub mod Crossing
pub mod Goes
pub mod Pushes
pub mod Rounds
pub mod Runs
