pub mod Examples
pub mod Free
pub mod Holding
pub mod Places
pub mod Swapping
pub mod Turned
mod Marking
