-- The definitions of this crate, file by file.
pub mod Streams
pub mod Carried
pub mod View
pub mod Invariant
pub mod Incoming
pub mod Outgoing
pub mod Laws
