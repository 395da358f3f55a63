-- The definitions of this crate, file by file.
pub mod Held
pub mod Histories
pub mod Undone
