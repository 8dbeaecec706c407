-- How a call begins, and what it makes of its plugin's record.
pub mod Begin
