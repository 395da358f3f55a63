-- The definitions of this crate.
pub mod Memory
pub mod Numbered
pub mod Traffic
