pub mod Certified
pub mod Given
pub mod GivenNames
pub mod Improving
pub mod Searching
