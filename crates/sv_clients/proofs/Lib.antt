-- The lemmas on what is kept of a client.
pub mod Rows
