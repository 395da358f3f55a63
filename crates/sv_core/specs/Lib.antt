-- The definitions of this crate, file by file.
pub mod Agreement
pub mod Cores
pub mod Decisions
pub mod Fits
pub mod Orphans
pub mod Relays
pub mod Rows
pub mod Seeing
