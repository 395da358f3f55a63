-- The definitions of this crate, file by file.
pub mod Lacking
pub mod Objects
pub mod Writers
