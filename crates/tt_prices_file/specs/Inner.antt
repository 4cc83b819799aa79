-- Definitions on which no part of the trusted statement rests.
pub mod Accounts
pub mod Groups
pub mod Rents
pub mod Tables
pub mod Terms
pub mod Underway
