pub mod Examples
pub mod Found
pub mod Lines
pub mod Pairs
pub mod Shared
