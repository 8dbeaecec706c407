-- What the transcript says, as bytes, and what it is to write them into a buffer.
pub mod Lines
pub mod Buffer
