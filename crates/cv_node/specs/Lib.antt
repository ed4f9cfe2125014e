pub mod Counts
pub mod Journalled
pub mod Polls
pub mod Seeing
