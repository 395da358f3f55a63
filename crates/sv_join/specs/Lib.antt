-- The definitions of a client that joins another program's server.
pub mod Legal
pub mod Joining
pub mod Words
pub mod Texts
pub mod Faults
pub mod Statuses
pub mod Answers
