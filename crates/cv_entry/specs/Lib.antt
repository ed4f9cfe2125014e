pub mod Texts
pub mod Trees
pub mod Values
pub mod laws
