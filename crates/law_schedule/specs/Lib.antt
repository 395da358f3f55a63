-- The definitions of this crate, file by file.
pub mod Players
pub mod Serving
pub mod Schedule
pub mod Sound
pub mod Served
pub mod Records
pub mod Done
