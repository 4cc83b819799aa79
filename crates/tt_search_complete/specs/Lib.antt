pub mod Completed
pub mod Inner
pub mod Suiting
