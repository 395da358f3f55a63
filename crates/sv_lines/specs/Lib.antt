-- The definitions of this crate, file by file.
pub mod Told
pub mod Reading
pub mod Lines
pub mod Asking
