-- The lemmas of this crate, file by file.
pub mod Backwards
pub mod Bits
pub mod Chains
pub mod Counts
pub mod Growth
pub mod Looks
pub mod Placed
pub mod Places
pub mod ReadSets
pub mod Sights
pub mod Takes
pub mod Visits
pub mod Walks
