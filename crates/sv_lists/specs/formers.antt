-- The types of this crate that may hold the types that hold them.
pub mod boxed
pub mod list
