pub mod Facts
pub mod Inner
pub mod Lines
pub mod Reading
pub mod Spelling
pub mod Wishes
