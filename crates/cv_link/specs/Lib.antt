pub mod Items
pub mod Plan
pub mod Planned
pub mod Ring
pub mod Runs
