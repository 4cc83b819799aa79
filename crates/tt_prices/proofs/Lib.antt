pub mod Signed
mod Examples
pub mod Groups
pub mod Placed
pub mod Planned
pub mod Priced
pub mod Recounted
pub mod Rents
pub mod Rooms
pub mod Cost
pub mod Courses
pub mod Whole
