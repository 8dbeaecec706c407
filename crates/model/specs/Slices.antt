-- The plugin list as a host lends it to the core: one number slice for each field of a record.
--
-- The calls on slices are those of Calls on the records that the slices hold. Slices that do not all have the length N are a list whose
-- length is not N.
use Rattle.std.specs.Prelude.{Result, Err, ℕ, ◌≡◌, Bool, cond, not, ◌&&◌, get_or, length, eqb}
use mathlib.Core.List.{List, [], ◌∷◌, map, tail}
use Rattle.model.specs.declared.Gate.{Gate}
use Rattle.model.specs.declared.Record.{Record}
use Rattle.model.specs.declared.Call.{Call}
use Rattle.model.specs.declared.Refusal.{Refusal}
use Rattle.model.specs.declared.Refusal.TheVariants.{OutOfRange, TooManySlots, WrongLength}
use Rattle.model.specs.Refusals.{Answered}
use Rattle.model.specs.Steps.{overfull}
use Rattle.model.specs.Calls.{Outcome, call, rec}
use Rattle.model.specs.Opening.{no_gate, open_in_range, opened}
use Rattle.model.specs.Shown.{comparison_shown, shown}
use Rattle.model.specs.Alike.{alike}

-- The five slices.
pub record Lent : Type 0 where
  pub regions : List ℕ
  pub marks : List ℕ
  pub values : List ℕ
  pub colours : List ℕ
  pub slots : List ℕ

abbrev pub lent : List ℕ → List ℕ → List ℕ → List ℕ → List ℕ → Lent
lent rs ms vs cs ss = record { regions = rs; marks = ms; values = vs; colours = cs; slots = ss }

-- The records that five slices hold, as many as there are regions.
unfoldable pub records : List ℕ → List ℕ → List ℕ → List ℕ → List ℕ → List Record
records [] ms vs cs ss = []
records (r ∷ rs) ms vs cs ss = rec r (get_or ms 0 0) (get_or vs 0 0) (get_or cs 0 0) (get_or ss 0 0) ∷ records rs (tail ms) (tail vs) (tail cs) (tail ss)

abbrev pub records_of : Lent → List Record
records_of s = records s.regions s.marks s.values s.colours s.slots

-- The slices of a list of records.
abbrev pub lent_of : List Record → Lent
lent_of l = lent (map (λ r. r.region) l) (map (λ r. r.mark) l) (map (λ r. r.value.0) l) (map (λ r. r.colour.0) l) (map (λ r. r.slot.0) l)

-- The list's length is n: each slice's is.
unfoldable pub length_is : Lent → ℕ → Bool
length_is s n =
    eqb (length s.regions) n && eqb (length s.marks) n && eqb (length s.values) n && eqb (length s.colours) n
    && eqb (length s.slots) n

-- What a call leaves of the words and the slices, and its answer.
pub record LentOutcome : Type 0 where
  pub gate : Gate
  pub slices : Lent
  pub answer : Answered

abbrev pub on_slices : Outcome → LentOutcome
on_slices o = record { gate = o.gate; slices = lent_of o.list; answer = o.answer }

abbrev pub refused_lent : Refusal → Gate → Lent → LentOutcome
refused_lent r g s = record { gate = g; slices = s; answer = Err r }

unfoldable pub call_lent : Call → Gate → Lent → ℕ → LentOutcome
call_lent c g s p = cond (length_is s g.n) (on_slices (call c g (records_of s) p)) (refused_lent WrongLength g s)

unfoldable pub open_lent : ℕ → ℕ → ℕ → Lent → LentOutcome
open_lent year n k s =
    cond (not (open_in_range year n k)) (refused_lent OutOfRange no_gate s)
    (cond (overfull year n k) (refused_lent TooManySlots no_gate s)
    (cond (length_is s n) (on_slices (opened year n k)) (refused_lent WrongLength no_gate s)))

unfoldable pub alike_lent : Gate → Lent → Gate → Lent → Result Bool Refusal
alike_lent g s h t =
    cond (not (length_is s g.n)) (Err WrongLength)
    (cond (not (length_is t h.n)) (Err WrongLength) (alike g (records_of s) h (records_of t)))

-- What a public call on slices promises: every word, every record and the answer are those of the outcome, and so is what the answer
-- shows.
pub record Meets (o : LentOutcome) (gate : Gate) (answer : Answered) (slices : Lent) : Type 0 where
  pub gate_is : gate ≡ o.gate
  pub answer_is : answer ≡ o.answer
  pub shown_is : shown answer ≡ shown o.answer
  pub slices_are : slices ≡ o.slices

-- What alike promises.
pub record Compares (o answer : Result Bool Refusal) : Type 0 where
  pub answer_is : answer ≡ o
  pub shown_is : comparison_shown answer ≡ comparison_shown o
