pub mod Narrowing
pub mod Worse
