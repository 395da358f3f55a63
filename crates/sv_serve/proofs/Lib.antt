-- The lemmas of a server by itself.
pub mod Passages
pub mod Hosted
pub mod Steps
pub mod Endings
