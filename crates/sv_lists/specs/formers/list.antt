-- `List` as such a type.
pub mod List
