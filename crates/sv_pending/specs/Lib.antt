-- The definitions of this crate, file by file.
pub mod Pending
pub mod Made
pub mod Seen
pub mod Shapes
