-- The definitions of this crate, file by file.
pub mod Report
pub mod Again
pub mod Drops
pub mod Summary
pub mod Laws
