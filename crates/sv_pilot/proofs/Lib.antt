-- The lemmas of this crate, file by file.
pub mod Taking
pub mod Moved
pub mod Making
pub mod Weights
pub mod Replied
pub mod Asked
pub mod Watching
pub mod Shaped
pub mod Heard
pub mod Told
