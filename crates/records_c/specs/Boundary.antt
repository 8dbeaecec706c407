-- What the exported functions over a list of records promise: the call's outcome, with the words and what the answer shows in one struct.
use Rattle.std.specs.Prelude.{ℕ, ◌≡◌, not, List}
use Rattle.model.specs.declared.Gate.{Gate}
use Rattle.model.specs.declared.Record.{Record}
use Rattle.model.specs.declared.Refusal.TheVariants.{BadLine}
use Rattle.model.specs.Calls.{Outcome, call, refuse}
use Rattle.model.specs.Letters.{is_letter, letter_call}
use Rattle.told.specs.declared.Told.{Told}
use Rattle.told.specs.Told.{told_of}

-- A call by its letter: the named call's outcome, or 8 and nothing changed where no call has the letter.
unfoldable pub letter_called : ℕ → Gate → List Record → ℕ → Outcome
letter_called letter g l p = refuse (not (is_letter letter)) BadLine g l (call (letter_call letter) g l p)

-- An outcome `o` was handed over: words, list and answer are its own.
pub record Tells (o : Outcome) (told : Told) (list : List Record) : Type 0 where
  pub told_is : told ≡ told_of o.gate o.answer
  pub list_is : list ≡ o.list
