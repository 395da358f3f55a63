-- The definitions of the program's words.
pub mod Answers
pub mod Choice
pub mod Closed
pub mod Halls
pub mod Notices
