-- The definitions of this crate, file by file.
pub mod Steps
pub mod Refusals
pub mod Fields
pub mod Nodes
pub mod Trees
pub mod Messages
pub mod Spelling
pub mod Grammar
pub mod Ranges
pub mod Laws
