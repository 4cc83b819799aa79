-- Definitions on which no part of the trusted statement rests.
pub mod Earlier
pub mod FactTable
pub mod Sets
pub mod Tables
