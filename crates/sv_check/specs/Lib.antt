-- The definitions of this crate, file by file.
pub mod Consistent
pub mod Parts
pub mod Bare
pub mod Either
pub mod Wrong
pub mod Next
pub mod Stopping
pub mod Verdicts
pub mod Serving
pub mod Entering
pub mod Acting
pub mod Clients
pub mod Yes
