pub mod Determined
pub mod Streams
