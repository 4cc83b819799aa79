pub mod Refused
pub mod Sources
