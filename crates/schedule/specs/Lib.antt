-- What the reader's own functions promise each other, and what next call promises of its answer and rest. The other public promises cite
-- model's definitions.
pub mod Rest
pub mod Field
pub mod Reading
pub mod Next
