pub mod Restored
pub mod Until
