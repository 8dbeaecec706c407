-- What is safe on a record of a sound list.
pub mod RecordLaws
-- What `begins` found.
pub mod FoundLaws
