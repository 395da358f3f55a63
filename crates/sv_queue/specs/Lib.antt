-- The definitions of this crate, file by file.
pub mod Blocks
pub mod Invariant
pub mod Marks
pub mod Pairs
pub mod Positions
pub mod Queue
pub mod Rooms
pub mod Slots
pub mod Written
