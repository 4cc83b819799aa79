pub mod BeginningLaws
pub mod EntryLaws
pub mod Grouping
pub mod Loops
pub mod Numbering
pub mod WrittenLaws
