-- The lemmas of this crate, file by file.
pub mod Counts
pub mod Evaluated
pub mod Worlds
pub mod Made
pub mod Reported
pub mod Owned
pub mod Items
pub mod Honest
pub mod Facts
pub mod Answered
pub mod Replied
