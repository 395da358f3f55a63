-- The lemmas of this crate, file by file.
pub mod Blocks
pub mod Entries
pub mod Forgets
pub mod Installs
pub mod Kept
pub mod Members
pub mod PairSets
pub mod PositionLists
pub mod SlotSets
pub mod SlotWords
pub mod SourceLists
pub mod Waits
pub mod WrittenObjects
