-- The definitions of this crate, file by file.
pub mod Past
pub mod Hellos
pub mod Https
pub mod Sockets
pub mod Webs
pub mod View
pub mod Invariant
