-- The lemmas of this crate, file by file.
pub mod Onward
pub mod Messages
pub mod Sizes
pub mod Apart
pub mod Posting
pub mod Lanes
pub mod Views
