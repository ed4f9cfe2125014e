pub mod Keyed
pub mod Machine
pub mod OneRuntime
pub mod PlainNetwork
pub mod PrintedText
pub mod Touching
pub mod Undoing
