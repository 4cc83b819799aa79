pub mod Adding
pub mod CoursesAndSizes
pub mod Places
pub mod Reported
pub mod Taken
