-- The definitions of this crate, file by file.
pub mod Carried
pub mod Partings
pub mod Awaiting
pub mod Seen
pub mod Going
pub mod Waiting
pub mod Stops
pub mod Sessions
pub mod Played
pub mod Ends
