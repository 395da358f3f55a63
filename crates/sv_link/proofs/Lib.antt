-- The lemmas of this crate, file by file.
mod Arrivals
mod Promises
mod Sending
