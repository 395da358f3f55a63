-- The lemmas of this crate, file by file.
pub mod Sent
pub mod Shared
pub mod Stepped
