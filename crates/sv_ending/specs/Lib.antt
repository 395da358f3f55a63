-- The definitions that the top calls share.
pub mod Lines
pub mod Reading
pub mod Numbers
pub mod Statuses
pub mod Endings
pub mod Calls
