-- The definitions of checking a report, and of telling why.
pub mod Words
pub mod Texts
pub mod Judging
pub mod Statuses
pub mod Answers
