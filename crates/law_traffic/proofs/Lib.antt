-- The lemmas of this crate, file by file.
pub mod Cuts
pub mod Ours
pub mod Messages
pub mod Dues
pub mod Loops
pub mod Bytes
pub mod Counted
pub mod Owners
pub mod Sendable
pub mod Recorded
pub mod Takeable
pub mod Stuck
pub mod Whole
