pub mod Acts
pub mod Going
