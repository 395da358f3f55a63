-- The definitions of lists, boxes and texts.
pub mod formers
