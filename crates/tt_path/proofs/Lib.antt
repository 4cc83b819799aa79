pub mod Examples
pub mod Given
pub mod Least
pub mod LiveCells
pub mod Lost
pub mod Matching
pub mod Same
