pub mod Availability
pub mod Faults
pub mod Limits
pub mod Lists
pub mod Shapes
