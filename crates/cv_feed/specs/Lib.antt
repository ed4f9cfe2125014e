pub mod Judgement
pub mod Streams
