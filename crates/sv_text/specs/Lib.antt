-- The definitions of the action language.
pub mod Tokens
pub mod Ahead
pub mod Reading
pub mod Canonical
pub mod Grammar
pub mod Printable
