-- The laws that the functions' proofs cite.
mod Loops
mod MetLaws
mod OtherLaws
mod PassLaws
mod Verdict
mod SizeLaws
