pub mod Changed
pub mod Marks
