-- The lemmas of this crate, file by file.
pub mod Lines
pub mod Seeking
pub mod Doing
pub mod Telling
pub mod Standing
pub mod Dropping
pub mod Traffic
pub mod Outcomes
