mod Decimals
mod Quotes
mod Lexicals
pub mod Rereads
pub mod Prints
pub mod Rewritten
