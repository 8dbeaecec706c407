-- The laws that the functions' proofs cite.
mod Distinct
mod Loops
mod Verdict
