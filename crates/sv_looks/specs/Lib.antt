-- The definitions of looks and their snapshots.
pub mod Snapshots
pub mod Cuts
pub mod Lines
pub mod Again
pub mod Words
pub mod Statuses
pub mod Answers
