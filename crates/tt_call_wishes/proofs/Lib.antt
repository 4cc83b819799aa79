mod ClashRefused
pub mod Counted
pub mod Refused
mod Starting
