pub mod Inputs
pub mod Prints
pub mod Replays
pub mod Rounds
pub mod Touched
pub mod Turns
pub mod Undoings
