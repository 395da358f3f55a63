-- The definitions of this crate, file by file.
pub mod Sides
pub mod Ends
pub mod Nets
pub mod Logs
pub mod Unmatched
pub mod Books
pub mod Pipes
pub mod Crews
pub mod Promises
pub mod ThreadCrews
pub mod Streams
pub mod TcpEnds
