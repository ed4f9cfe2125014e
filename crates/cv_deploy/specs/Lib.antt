pub mod Faults
pub mod Meaning
