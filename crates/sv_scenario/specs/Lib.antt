-- The definitions of scenario files.
pub mod Faults
pub mod Keys
pub mod Numbers
pub mod Objects
pub mod Scripts
pub mod Sessions
pub mod Digits
pub mod Turns
pub mod Scenarios
pub mod Limits
pub mod Lines
