-- Definitions on which no part of the trusted statement rests.
pub mod Killing
pub mod Listing
pub mod Order
pub mod Shown
pub mod Spread
pub mod Touching
pub mod Shelves
pub mod Asking
