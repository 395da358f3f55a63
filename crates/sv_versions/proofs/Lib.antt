-- The lemmas of this crate, file by file.
pub mod Lists
pub mod Rows
pub mod Puts
pub mod Prunes
pub mod Restores
pub mod Flats
pub mod Prunings
pub mod Greatest
pub mod Laws
