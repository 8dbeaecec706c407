-- What a list that is lent for writing is promised to hold.
pub mod Columns
