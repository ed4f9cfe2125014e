pub mod Bridge
pub mod Parts
pub mod Scan
pub mod Sorting
pub mod Steps
pub mod Taking
