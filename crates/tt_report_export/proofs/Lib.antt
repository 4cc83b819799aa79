pub mod Examples
mod Clocks
mod Days
mod Fields
mod Lines
