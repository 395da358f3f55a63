-- The definitions of what actions do.
pub mod Evaluation
pub mod Numbers
pub mod Serial
pub mod Walks
