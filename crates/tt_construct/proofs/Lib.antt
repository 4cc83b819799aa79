pub mod Examples
pub mod Filled
