-- The lemmas of this crate, file by file.
pub mod Controls
pub mod Steps
pub mod Hellos
pub mod Desks
