pub mod Going
pub mod Joining
pub mod Keeping
pub mod Links
pub mod Moving
pub mod Passed
pub mod Sending
