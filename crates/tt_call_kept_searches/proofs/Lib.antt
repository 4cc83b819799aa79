pub mod AnswersTold
pub mod Keeping
pub mod Narrowings
pub mod Refused
