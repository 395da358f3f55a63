-- The lemmas of this crate, file by file.
mod Checked
pub mod Closed
pub mod Commits
mod Counts
mod Filling
mod Fronts
mod Heads
pub mod Kept
mod Messages
pub mod Named
mod Places
pub mod Plain
pub mod Replies
mod Rightful
pub mod Results
pub mod Sizes
pub mod Spent
pub mod Stays
pub mod Stewards
mod Worked
