pub mod Rows
pub mod Alone
pub mod Family
pub mod Mirrors
pub mod Turned
pub mod Follows
pub mod Kahn
