pub mod Changes
pub mod Counted
pub mod Fewest
pub mod Kept
pub mod Untaught
pub mod Words
pub mod Written
