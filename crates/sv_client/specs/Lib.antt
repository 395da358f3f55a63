-- The definitions of this crate, file by file.
pub mod Traces
pub mod Same
pub mod Taking
pub mod Proper
pub mod Kinds
pub mod Seen
pub mod Past
pub mod Evaluating
pub mod Invariant
pub mod Recorded
pub mod Answers
