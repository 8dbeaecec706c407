-- What an open answers.
pub mod Opens
