pub mod Examples
pub mod Exchanging
pub mod Replaced
pub mod TakenPeriods
