pub mod Changes
pub mod Loans
pub mod Maps
pub mod Orders
pub mod Views
