pub mod Small
pub mod Nested
pub mod Whole
pub mod Parsing
pub mod Spelling
pub mod Grammar
pub mod Asides
