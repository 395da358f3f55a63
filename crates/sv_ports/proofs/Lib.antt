-- The proofs of this crate.
pub mod Bytes
pub mod Items
pub mod Tables
