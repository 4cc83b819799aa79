pub mod Improved
pub mod Inner
