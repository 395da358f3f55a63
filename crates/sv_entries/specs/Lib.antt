-- The definitions of this crate, file by file.
pub mod Lines
pub mod Asking
pub mod Refused
pub mod Laws
