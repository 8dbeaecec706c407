-- What the contracts of this crate cite beside document 01's definitions (the crate `model`).
pub mod Places
pub mod Bins
pub mod Counts
