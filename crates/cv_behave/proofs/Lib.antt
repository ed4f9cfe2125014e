pub mod Actions
pub mod Fitting
pub mod Giving
pub mod Lists
pub mod Ready
pub mod Sameness
