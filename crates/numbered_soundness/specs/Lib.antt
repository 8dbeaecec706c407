-- What the functions of this crate promise each other.
pub mod Records
-- What a list that is lent holds.
pub mod Columns
