-- The definitions of this crate, file by file.
pub mod Pictures
pub mod Crashes
pub mod Reads
pub mod Memory
pub mod Folders
pub mod Logs
pub mod Texts
pub mod Rests
pub mod Causes
pub mod Names
pub mod Chains
pub mod OpenLogs
pub mod Readings
pub mod Refusals
pub mod Walks
pub mod Recoveries
pub mod States
