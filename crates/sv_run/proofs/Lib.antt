-- The lemmas of runs.
pub mod Endings
pub mod Making
pub mod Threads
pub mod Pairs
