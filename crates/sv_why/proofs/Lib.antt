-- The lemmas of this crate, file by file.
pub mod Walks
pub mod Alone
pub mod Wanting
