pub mod Digits
pub mod Fold
pub mod Steps
pub mod WeekLists
