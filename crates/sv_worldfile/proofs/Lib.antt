-- The lemmas on world files.
pub mod Kept
pub mod Pairs
