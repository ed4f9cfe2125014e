pub mod Clusters
pub mod Placing
pub mod Spread
