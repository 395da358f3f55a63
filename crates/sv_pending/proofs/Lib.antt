-- The lemmas of this crate, file by file.
pub mod Places
pub mod Overlays
pub mod Shapes
