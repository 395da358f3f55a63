-- The definitions of this crate, file by file.
pub mod Requests
pub mod Serving
pub mod Rounds
pub mod Answers
