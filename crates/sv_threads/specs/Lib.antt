-- The definitions of this crate, file by file.
pub mod Telling
pub mod Places
pub mod Tasks
pub mod Given
pub mod RunRemains
pub mod Pairs
pub mod Settling
pub mod Opening
pub mod Playing
pub mod Endings
pub mod Moved
