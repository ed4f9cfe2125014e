pub mod Arguments
pub mod Far
pub mod Members
pub mod OneFrame
pub mod Ones
pub mod Shapes
pub mod Stands
pub mod Streams
