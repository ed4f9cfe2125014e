pub mod Asked
pub mod Items
pub mod Numbers
pub mod Runs
