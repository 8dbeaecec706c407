-- The plugin list as a host lends it to the numbered gate: one number slice for each field of a record.
--
-- The calls on slices are those of Calls on the records that the slices hold. Slices that do not all have the length N are a list whose
-- length is not N.
use Rattle.std.specs.Prelude.{Err, ℕ, ◌≡◌, Bool, cond, not, ◌&&◌, get_or, length, eqb}
use mathlib.Core.List.{List, [], ◌∷◌, map, tail}
use Rattle.numbered.specs.declared.NumberedGate.{NumberedGate}
use Rattle.numbered.specs.declared.NumberedRecord.{NumberedRecord}
use Rattle.model.specs.declared.Refusal.{Refusal}
use Rattle.model.specs.declared.Call.{Call}
use Rattle.model.specs.declared.Refusal.TheVariants.{OutOfRange, WrongLength}
use Rattle.numbered.specs.Sound.{sizes_allowed}
use Rattle.numbered.specs.Calls.{NumberedAnswered, NumberedOutcome, call_numbered, no_numbered_gate, numbered_record, opened_numbered, shown_numbered}

-- The three slices.
pub record NumberedLent : Type 0 where
  pub regions : List ℕ
  pub marks : List ℕ
  pub tickets : List ℕ

abbrev pub numbered_lent : List ℕ → List ℕ → List ℕ → NumberedLent
numbered_lent rs ms ts = record { regions = rs; marks = ms; tickets = ts }

-- The records that three slices hold, as many as there are regions.
unfoldable pub numbered_records : List ℕ → List ℕ → List ℕ → List NumberedRecord
numbered_records [] ms ts = []
numbered_records (r ∷ rs) ms ts = numbered_record r (get_or ms 0 0) (get_or ts 0 0) ∷ numbered_records rs (tail ms) (tail ts)

abbrev pub numbered_records_of : NumberedLent → List NumberedRecord
numbered_records_of s = numbered_records s.regions s.marks s.tickets

-- The slices of a list of records.
abbrev pub numbered_lent_of : List NumberedRecord → NumberedLent
numbered_lent_of l = numbered_lent (map (λ r. r.region) l) (map (λ r. r.mark) l) (map (λ r. r.ticket) l)

-- The list's length is n: each slice's is.
unfoldable pub numbered_length_is : NumberedLent → ℕ → Bool
numbered_length_is s n = eqb (length s.regions) n && eqb (length s.marks) n && eqb (length s.tickets) n

-- What a call leaves of the words and the slices, and its answer.
pub record NumberedLentOutcome : Type 0 where
  pub gate : NumberedGate
  pub slices : NumberedLent
  pub answer : NumberedAnswered

abbrev pub on_numbered_slices : NumberedOutcome → NumberedLentOutcome
on_numbered_slices o = record { gate = o.gate; slices = numbered_lent_of o.list; answer = o.answer }

abbrev pub refused_numbered_lent : Refusal → NumberedGate → NumberedLent → NumberedLentOutcome
refused_numbered_lent r g s = record { gate = g; slices = s; answer = Err r }

unfoldable pub call_numbered_lent : Call → NumberedGate → NumberedLent → ℕ → NumberedLentOutcome
call_numbered_lent c g s p =
    cond (numbered_length_is s g.n) (on_numbered_slices (call_numbered c g (numbered_records_of s) p)) (refused_numbered_lent WrongLength g s)

unfoldable pub open_numbered_lent : ℕ → ℕ → NumberedLent → NumberedLentOutcome
open_numbered_lent n k s =
    cond (not (sizes_allowed n k)) (refused_numbered_lent OutOfRange no_numbered_gate s)
    (cond (numbered_length_is s n) (on_numbered_slices (opened_numbered n k)) (refused_numbered_lent WrongLength no_numbered_gate s))

-- What a public call on slices promises: every word, every record and the answer are those of the outcome, and so is what the answer
-- shows.
pub record NumberedMeets (o : NumberedLentOutcome) (gate : NumberedGate) (answer : NumberedAnswered) (slices : NumberedLent) : Type 0 where
  pub gate_is : gate ≡ o.gate
  pub answer_is : answer ≡ o.answer
  pub shown_is : shown_numbered answer ≡ shown_numbered o.answer
  pub slices_are : slices ≡ o.slices
