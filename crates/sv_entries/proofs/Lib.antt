-- The lemmas of this crate, file by file.
pub mod OneText
pub mod ReadLines
pub mod Faulty
pub mod ByFaults
