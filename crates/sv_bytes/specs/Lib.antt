-- The definitions of this crate, file by file.
pub mod Faults
pub mod Memory
pub mod Plans
pub mod Reading
pub mod Stored
pub mod Writing
