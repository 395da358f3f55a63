-- The definitions of this crate, file by file.
pub mod Committed
pub mod Entries
pub mod Numbered
pub mod Brought
pub mod Cuts
pub mod Opened
pub mod Stewarded
pub mod Trusted
