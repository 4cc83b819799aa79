-- Definitions on which no part of the trusted statement rests.
pub mod BestSoFar
pub mod Growing
pub mod Links
pub mod State
pub mod Steps
pub mod Written
