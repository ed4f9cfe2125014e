pub mod Causes
pub mod Saying
pub mod Wires
