pub mod Alone
pub mod Fitting
pub mod Giving
pub mod Staying
