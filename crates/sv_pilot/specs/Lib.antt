-- The definitions of this crate, file by file.
pub mod Troubles
pub mod Shapes
pub mod Hearing
pub mod Calls
pub mod Lines
pub mod Sending
pub mod Doings
