-- Laws of a call on a list as a whole.
pub mod CallLaws
