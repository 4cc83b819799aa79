pub mod Checked
pub mod Holding
pub mod Refused
pub mod Summed
