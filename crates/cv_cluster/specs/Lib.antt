pub mod Cluster
pub mod Holding
pub mod Opening
pub mod Rounds
pub mod Ticking
pub mod Turns
