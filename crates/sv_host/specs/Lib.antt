-- The definitions of the server of a living world.
pub mod Words
pub mod Lines
pub mod Inputs
pub mod Rooms
pub mod Served
pub mod Joining
pub mod Staffing
pub mod Statuses
pub mod Causes
pub mod Laws
