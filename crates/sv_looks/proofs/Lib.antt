-- The lemmas of snapshots.
pub mod Lasts
pub mod Numbered
pub mod Readable
pub mod Telling
pub mod Cutting
pub mod Printing
pub mod Endings
pub mod Blocks
