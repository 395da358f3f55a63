-- The lemmas on what actions do.
pub mod Lengths
pub mod Lists
pub mod Masks
pub mod Effects
pub mod Serials
pub mod Walks
