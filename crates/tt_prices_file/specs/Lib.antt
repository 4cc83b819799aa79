pub mod Claims
pub mod Faults
pub mod Files
pub mod Inner
pub mod UpToFailedRead
