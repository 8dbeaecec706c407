-- Document 01's whole case, and what a run writes.
pub mod WholeCase
pub mod Run
