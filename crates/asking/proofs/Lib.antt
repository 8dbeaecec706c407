-- What a look gives.
pub mod LookLaws
