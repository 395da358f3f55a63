-- The lemmas of a join.
pub mod Unwrapping
pub mod Lawful
pub mod Played
pub mod Answering
pub mod Raising
pub mod Endings
