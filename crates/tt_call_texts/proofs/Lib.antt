pub mod Dating
pub mod KeptTelling
pub mod PageTelling
mod Refused
mod Retold
