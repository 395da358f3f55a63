-- The lemmas of this crate, file by file.
pub mod Splitting
pub mod Telling
pub mod Plain
pub mod Printable
pub mod Requests
pub mod Numerals
pub mod Turns
pub mod ReadLists
pub mod Counting
pub mod Short
pub mod ReadRequests
pub mod EntryLines
