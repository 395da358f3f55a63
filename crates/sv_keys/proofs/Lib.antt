-- Lemmas of this crate.
pub mod Numbers
pub mod Walk
pub mod Held
