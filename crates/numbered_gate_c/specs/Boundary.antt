-- What the exported functions promise: the core's outcome, with the words and what the answer shows in one struct.
use Rattle.std.specs.Prelude.{Err, Ok, ℕ, ◌≡◌, cond}
use Rattle.model.specs.Lists.{one_if}
use Rattle.model.specs.Letters.{is_letter, letter_call}
use Rattle.model.specs.declared.Answer.TheVariants.{Took, Looked, Placed, Done}
use Rattle.model.specs.declared.Refusal.TheVariants.{BadLine}
use Rattle.numbered.specs.declared.NumberedGate.{NumberedGate}
use Rattle.numbered.specs.Calls.{NumberedAnswered, shown_numbered}
use Rattle.numbered.specs.Slices.{NumberedLent, NumberedLentOutcome, call_numbered_lent, refused_numbered_lent}
use Rattle.numbered_gate_c.specs.declared.told.NumberedShown.{NumberedShown}
use Rattle.numbered_gate_c.specs.declared.told.NumberedTold.{NumberedTold}

-- "The answer to a call is one of: ticket, yes or no, place, done, or refused": 0 to 4.
abbrev pub numbered_kind : NumberedAnswered → ℕ
numbered_kind (Ok (Took t)) = 0
numbered_kind (Ok (Looked v)) = 1
numbered_kind (Ok (Placed n)) = 2
numbered_kind (Ok Done) = 3
numbered_kind (Err refusal) = 4

-- What an answer shows, as numbers: yes is 1 and no is 0.
abbrev pub numbered_numbers : NumberedAnswered → NumberedShown
numbered_numbers a = record {
  number = (shown_numbered a).number;
  kind = numbered_kind a;
  yes = one_if (shown_numbered a).yes;
  ticket = (shown_numbered a).ticket;
  place = (shown_numbered a).place;
}

-- The words and the answer, handed over.
abbrev pub numbered_told_of : NumberedGate → NumberedAnswered → NumberedTold
numbered_told_of g a = record { gate = g; shown = numbered_numbers a }

-- A call by its letter: the named call's outcome, or 8 and nothing changed where no call has the letter.
unfoldable pub letter_numbered_lent : ℕ → NumberedGate → NumberedLent → ℕ → NumberedLentOutcome
letter_numbered_lent letter g s p = cond (is_letter letter) (call_numbered_lent (letter_call letter) g s p) (refused_numbered_lent BadLine g s)

-- An outcome `o` was handed over: words, list and answer are its own.
pub record NumberedTells (o : NumberedLentOutcome) (told : NumberedTold) (slices : NumberedLent) : Type 0 where
  pub told_is : told ≡ numbered_told_of o.gate o.answer
  pub slices_are : slices ≡ o.slices
