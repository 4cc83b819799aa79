pub mod Refused
pub mod Telling
