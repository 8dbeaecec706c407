-- The laws that the functions' proofs cite: of the steps on words and tickets, and of the row of free slots.
pub mod Laws
pub mod RowLaws
