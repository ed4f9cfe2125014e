pub mod Characters
pub mod Fitting
