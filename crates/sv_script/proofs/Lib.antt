-- The lemmas of this crate, file by file.
pub mod Beginnings
pub mod Steps
pub mod Choosing
pub mod Pending
pub mod Due
pub mod Counts
pub mod Cuts
pub mod Asked
pub mod Begun
pub mod Ends
pub mod Places
pub mod Shifted
pub mod Told
pub mod Examples
