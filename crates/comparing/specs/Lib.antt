-- Two boards compared.
pub mod Boards
