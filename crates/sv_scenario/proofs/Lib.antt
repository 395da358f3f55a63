-- The lemmas on scenario files.
pub mod Counts
pub mod Decimals
pub mod Kept
pub mod Parts
pub mod Sums
pub mod Utf8
