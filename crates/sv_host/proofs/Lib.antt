-- The lemmas of the server of a living world.
pub mod Behind
pub mod Taking
pub mod Places
pub mod Guests
pub mod Rules
pub mod Ends
pub mod Top2
pub mod Loop1
pub mod Written
pub mod Joined
pub mod Boxes
pub mod Through
pub mod Staff
