pub mod Fronts
pub mod Held
pub mod Lists
pub mod Readable
pub mod Readers
pub mod Wholes
