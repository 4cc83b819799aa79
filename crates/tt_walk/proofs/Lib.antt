pub mod Examples
pub mod Improvements
