pub mod Inner
pub mod Least
pub mod Tables
pub mod Terms
