pub mod OneEntry
pub mod OneNetwork
pub mod Plain
