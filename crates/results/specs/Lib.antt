-- The results of a list of calls as they are written out.
pub mod Results
-- The slices lent together.
pub mod Slices
