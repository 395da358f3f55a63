-- The lemmas of the crate.
pub mod Counts
pub mod Decimals
pub mod Held
pub mod Left
pub mod Statuses
