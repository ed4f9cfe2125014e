pub mod Found
pub mod Gifts
pub mod Settled
pub mod Sights
pub mod Starts
