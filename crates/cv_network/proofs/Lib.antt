pub mod Held
pub mod Images
pub mod Keys
pub mod Made
pub mod Ports
