-- A refusal leaves the words.
pub mod RefusalLaws
-- What a call decides, from its beginning to its end.
pub mod DecideLaws
-- The same of five slices.
pub mod LentLaws
-- The fields of a record that a call leaves as they were.
pub mod KeptLaws
-- So a call that is lent these for reading only meets its outcome too.
pub mod FormLaws
-- What an open leaves.
pub mod OpenLaws
