-- The lemmas of this crate, file by file.
pub mod Places
mod Settled
pub mod Unused
pub mod Opened
pub mod Ready
pub mod Taken
pub mod Leaving
pub mod Whole
pub mod Keepers
pub mod Endings
pub mod Jobs
pub mod Done
pub mod Sent
