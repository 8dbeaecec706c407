-- Laws that the functions' proofs cite, over plain lists and numbers.
pub mod PlayLaws
pub mod HostLaws
