-- The definitions of generated scenarios.
pub mod Generated
pub mod Changes
