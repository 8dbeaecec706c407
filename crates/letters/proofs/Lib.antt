-- Laws of the letters that name calls.
pub mod LetterLaws
