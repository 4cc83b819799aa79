pub mod KeptLaws
pub mod Texts
pub mod WrittenLaws
