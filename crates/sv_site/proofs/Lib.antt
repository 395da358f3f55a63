-- The lemmas of this crate, file by file.
pub mod Cuts
pub mod Dots
pub mod Texts
