pub mod Hard
pub mod Inner
pub mod Score
pub mod Soft
