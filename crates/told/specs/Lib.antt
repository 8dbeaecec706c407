-- What is handed over.
pub mod Told
