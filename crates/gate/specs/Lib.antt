-- What a call decides.
pub mod Decides
