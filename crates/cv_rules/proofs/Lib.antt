pub mod Unders
pub mod Keyless
