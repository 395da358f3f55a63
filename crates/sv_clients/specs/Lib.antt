-- The definitions of what a server keeps of each client.
pub mod Clients
