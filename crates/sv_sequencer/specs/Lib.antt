-- The definitions of this crate, file by file.
pub mod Entering
pub mod Invariant
pub mod Shared
pub mod Step
