pub mod Beginnings
pub mod Groups
pub mod Kinds
pub mod Reading
pub mod Spelling
pub mod Table
