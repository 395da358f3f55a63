-- The lemmas of this crate, file by file.
pub mod Histories
pub mod Seats
pub mod Keeps
pub mod Calls
pub mod Ended
