-- The lemmas of this crate, file by file.
pub mod Streams
pub mod Stops
pub mod Replies
pub mod Joined
pub mod Decoded
pub mod Rounds
pub mod Ending
pub mod Taken
pub mod Posted
