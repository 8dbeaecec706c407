-- The laws that walks by hand share, in the order in which a walk meets them.
pub mod Plain
pub mod Types
pub mod Facts
pub mod Answers
pub mod Lies
pub mod Shared
pub mod Ends
