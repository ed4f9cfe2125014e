pub mod State
pub mod Texts
pub mod Trees
pub mod Values
pub mod Wire
pub mod laws
