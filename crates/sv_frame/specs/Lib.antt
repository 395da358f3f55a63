-- The definitions of this crate, file by file.
pub mod Frames
pub mod Streams
pub mod Answers
