pub mod Clashing
pub mod Improved
pub mod Wished
