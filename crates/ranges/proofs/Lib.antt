-- The laws that the functions' proofs cite, here and in the crates above.
pub mod Tests
pub mod RangeLaws
pub mod LeadLaws
