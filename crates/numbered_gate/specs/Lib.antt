-- What a call decides, and what it returns.
pub mod Decides
