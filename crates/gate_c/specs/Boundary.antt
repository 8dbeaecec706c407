-- What the exported functions promise: the core's outcome, with the words and what the answer shows in one struct.
use Rattle.std.specs.Prelude.{ℕ, ◌≡◌, cond}
use Rattle.model.specs.declared.Gate.{Gate}
use Rattle.model.specs.declared.Refusal.TheVariants.{BadLine}
use Rattle.model.specs.Letters.{is_letter, letter_call}
use Rattle.model.specs.Slices.{Lent, LentOutcome, call_lent, refused_lent}
use Rattle.told.specs.declared.Told.{Told}
use Rattle.told.specs.Told.{told_of}

-- A call by its letter: the named call's outcome, or 8 and nothing changed where no call has the letter.
unfoldable pub letter_lent : ℕ → Gate → Lent → ℕ → LentOutcome
letter_lent letter g s p = cond (is_letter letter) (call_lent (letter_call letter) g s p) (refused_lent BadLine g s)

-- An outcome `o` was handed over: words, list and answer are its own.
pub record Tells (o : LentOutcome) (told : Told) (slices : Lent) : Type 0 where
  pub told_is : told ≡ told_of o.gate o.answer
  pub slices_are : slices ≡ o.slices
