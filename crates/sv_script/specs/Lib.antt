-- The definitions of this crate, file by file.
pub mod Following
pub mod Next
pub mod Telling
pub mod Laws
pub mod Examples
