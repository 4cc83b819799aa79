pub mod Collected
pub mod Faults
pub mod Written
pub mod Whole
mod Examples
