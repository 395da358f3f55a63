-- The definitions of a server by itself.
pub mod Passages
pub mod Hosting
pub mod Giving
pub mod Words
pub mod Statuses
pub mod Answers
