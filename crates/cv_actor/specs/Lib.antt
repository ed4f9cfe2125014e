pub mod Acted
pub mod Ends
pub mod Lends
pub mod Passing
pub mod Polled
pub mod Returning
pub mod Room
