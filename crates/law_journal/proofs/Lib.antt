-- The lemmas of this crate, file by file.
pub mod Greatest
pub mod Staying
pub mod EveryEntry
pub mod Zeros
pub mod Makers
pub mod Asked
pub mod Items
pub mod Ascends
pub mod InOrder
pub mod Answered
pub mod Observed
pub mod Stewarding
pub mod Serves
pub mod Counted
