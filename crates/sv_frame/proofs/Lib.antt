-- The lemmas of this crate, file by file.
pub mod Fronts
pub mod Room
pub mod Splitting
pub mod Reading
