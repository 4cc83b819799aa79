pub mod Examples
pub mod Rests
pub mod RoomsAndDays
pub mod Rounds
pub mod Slots
pub mod Stepping
pub mod Undoing
