-- Document 02, A.9, as definitions, in the order in which they build on one another.
pub mod Sound
pub mod Calls
pub mod Slices
pub mod Claim
pub mod Table
