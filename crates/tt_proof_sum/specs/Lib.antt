pub mod Added
pub mod Faults
pub mod GroupsFaults
pub mod Inner
pub mod Sums
pub mod Tables
pub mod UpToFailedRead
