-- The definitions of this crate, file by file.
pub mod Players
pub mod Messages
pub mod Serving
pub mod Playable
pub mod Machine
pub mod Work
