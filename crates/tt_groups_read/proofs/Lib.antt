pub mod FileLaws
pub mod GroupLaws
pub mod ListLaws
pub mod ListTurns
pub mod Progress
