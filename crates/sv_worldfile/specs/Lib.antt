-- The definitions of world files.
pub mod Rights
pub mod WorldFiles
pub mod Limits
