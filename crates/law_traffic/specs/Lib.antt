-- The definitions of this crate, file by file.
pub mod Cuts
pub mod Sessions
pub mod Traffic
pub mod Laws
pub mod Stuck
pub mod Runs
