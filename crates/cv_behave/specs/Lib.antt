pub mod KindRow
pub mod Values
