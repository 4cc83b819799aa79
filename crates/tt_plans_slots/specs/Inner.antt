-- Definitions on which no part of the trusted statement rests.
pub mod CourseWords
pub mod Spares
pub mod States
