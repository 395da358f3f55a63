-- The definitions of this crate, file by file.
pub mod Doors
pub mod Pipes
pub mod Tcp
