-- The definitions of a living world's core.
pub mod Deciding
pub mod Invariant
pub mod Keeping
pub mod WorldPast
pub mod Quiet
pub mod Sessions
pub mod Table
pub mod World
