pub mod Crossing
pub mod Ends
pub mod Sets
pub mod Turns
pub mod Words
