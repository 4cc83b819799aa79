pub mod Clashes
pub mod Inner
pub mod Narrowed
pub mod Periods
pub mod Reasons
