-- The definitions of this crate, file by file.
pub mod Answer
pub mod Serving
pub mod Living
pub mod Examples
pub mod History
pub mod Pieces
pub mod Text
pub mod Sessions
pub mod Invariant
pub mod Rows
pub mod View
pub mod Laws
