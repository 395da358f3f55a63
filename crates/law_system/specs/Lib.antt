-- The definitions of this crate, file by file.
pub mod Fronts
pub mod Places
pub mod Clients
pub mod Fits
pub mod Journals
pub mod Serial
pub mod Cuts
pub mod Served
pub mod Within
pub mod Delivery
pub mod Told
pub mod Outcomes
pub mod Laws
pub mod Records
