-- The definitions of this crate.
pub mod Cuts
pub mod KeyLines
pub mod Keeping
