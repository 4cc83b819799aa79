pub mod Best
pub mod Given
pub mod Improved
pub mod Parted
pub mod Solved
