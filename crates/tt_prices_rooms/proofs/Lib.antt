pub mod Bounds
pub mod Choices
pub mod Listing
pub mod Rooms
pub mod Rows
pub mod Sums
pub mod Tables
pub mod Within
