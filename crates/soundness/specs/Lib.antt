-- What the contracts of this crate cite beside document 01's definitions (the crate `model`).
pub mod Others
pub mod Pass
pub mod Slots
