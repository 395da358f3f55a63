-- The lemmas of this crate, file by file.
pub mod Again
pub mod AgainMessages
pub mod AgainTrees
pub mod Append
pub mod Decoded
pub mod Flat
pub mod Found
pub mod FoundMessages
pub mod FoundTrees
pub mod Layers
pub mod Loop
pub mod Near
pub mod NearFields
pub mod NearMessages
pub mod NearTrees
pub mod Trees
pub mod Written
