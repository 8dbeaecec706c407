-- Document 01's whole case, proved; and laws of what is read and written.
pub mod WholeCase
pub mod RunLaws
