pub mod Names
pub mod Tables
pub mod Weeks
pub mod Calendars
pub mod Times
pub mod Terms
pub mod Folding
