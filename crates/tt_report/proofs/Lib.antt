pub mod Examples
pub mod Names
pub mod Putting
pub mod Shown
pub mod Written
