pub mod Counts
pub mod Feedless
pub mod FirstLines
pub mod Follow
pub mod OneBad
pub mod Standing
