-- The definitions of this crate, file by file.
pub mod Counting
pub mod Parts
pub mod Paths
pub mod Kinds
pub mod Origins
pub mod Keys
pub mod Figures
pub mod Routes
pub mod Lending
pub mod Answers
