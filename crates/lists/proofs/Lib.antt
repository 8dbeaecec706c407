-- Slices that stay the same.
pub mod SameLaws
