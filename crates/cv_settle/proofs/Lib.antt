pub mod Parts
pub mod Settles
pub mod Silent
pub mod Timeless
