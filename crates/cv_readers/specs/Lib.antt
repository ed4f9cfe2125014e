pub mod Reading
pub mod Combining
pub mod Slots
