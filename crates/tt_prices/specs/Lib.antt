pub mod Days
pub mod Limits
pub mod Prices
pub mod Rows
pub mod Signed
