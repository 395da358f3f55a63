-- The lemmas of checking a report.
pub mod Making
pub mod Endings
pub mod Explaining
pub mod Both
