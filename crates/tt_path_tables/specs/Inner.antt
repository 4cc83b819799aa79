-- Definitions on which no part of the trusted statement rests.
pub mod Bases
pub mod Demands
pub mod First
pub mod Rooms
pub mod Slots
pub mod Spots
pub mod Struck
pub mod Tables
pub mod Words
