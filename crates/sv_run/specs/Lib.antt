-- The definitions of runs, and of the call that makes them.
pub mod Words
pub mod Runs
pub mod Statuses
pub mod Answers
