-- The definitions of this crate, file by file.
pub mod Histories
pub mod Holding
pub mod Passes
pub mod Rest
