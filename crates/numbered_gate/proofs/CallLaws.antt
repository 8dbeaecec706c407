-- A call is decided by what `begin` finds and by its plugin's record alone.
--
-- Main statements: `called_alone` (a call reads and writes no record but its plugin's), `leaves` (the fields that an accepted call leaves).
use Prim.Native.Nat.{ℕ, ◌-◌}
use mathlib.Core.Path.{ap, refl, sym, ◌∙◌, ◌≡◌}
use mathlib.Core.Bool.{true}
use mathlib.Core.List.{List}
use native.Mathlib.Omega.{arith}
use lib.ListN.{get_or}
use lib.Seq.{set-get_or}
use borrow.Author.Tests.{eq-eqb}
use Rattle.std.proofs.Common.{Err, Ok, Result}
use Rattle.begin.specs.Begin.{begins}
use Rattle.begin.proofs.FoundLaws.{Found, found_place}
use Rattle.model.specs.declared.Call.{Call}
use Rattle.model.specs.declared.Call.TheVariants.{Leave, Look, Place, Stop, Take, Wake}
use Rattle.model.specs.declared.Refusal.{Refusal}
use Rattle.model.proofs.Logic.{by_bool}
use Rattle.numbered.specs.declared.NumberedGate.{NumberedGate}
use Rattle.numbered.specs.declared.NumberedRecord.{NumberedRecord}
use Rattle.numbered.specs.Calls.{NumberedOutcome, call_numbered, called_numbered, idle_numbered, left_numbered, looked_numbered, marked_numbered, placed_numbered, numbered_record, record_at, taken_numbered, with_record_at}
use Rattle.numbered.specs.Slices.{NumberedLent, call_numbered_lent, numbered_length_is, numbered_lent, numbered_lent_of, numbered_records_of, on_numbered_slices}
use Rattle.numbered.specs.Sound.{sound_numbered}
use Rattle.numbered.proofs.SliceLaws.{all_long, counted_records, lent_records, lent_set, marks_of, records_at, regions_of, tickets_of}
use Rattle.numbered_soundness.specs.Columns.{IsWithin, set_numbered}
use Rattle.numbered_gate.specs.Decides.{Decides, Leaves, Made, alone, outcome_of}

-- What is made of a list of one record, made of that record in a list.
abbrev lifted : List NumberedRecord → ℕ → NumberedOutcome → NumberedOutcome
lifted l p o = record { gate = o.gate; list = with_record_at l p (record_at o.list 1); answer = o.answer }

module _ (g : NumberedGate) (l : List NumberedRecord) (p : ℕ) where
  kept : with_record_at l p (record_at l p) ≡ l
  kept = set-get_or l (p - 1) idle_numbered

  called_alone : (c : Call) → called_numbered c g l p ≡ lifted l p (alone c g (record_at l p))
  unfolding called_numbered taken_numbered looked_numbered left_numbered placed_numbered marked_numbered
  called_alone Take = grind (arith, kept)
  called_alone Look = grind (arith, kept)
  called_alone Leave = grind (arith, kept)
  called_alone Place = grind (arith, kept)
  called_alone Stop = grind (arith, kept)
  called_alone Wake = grind (arith, kept)

-- The fields of its record that an accepted call leaves as they were.
abbrev Same : Call → NumberedRecord → NumberedRecord → Type 0
Same Take r r' = r'.mark ≡ r.mark
Same Look r r' = (r'.mark ≡ r.mark) × (r'.ticket ≡ r.ticket)
Same Leave r r' = r'.mark ≡ r.mark
Same Place r r' = r' ≡ r
Same Stop r r' = (r'.region ≡ r.region) × (r'.ticket ≡ r.ticket)
Same Wake r r' = (r'.region ≡ r.region) × (r'.ticket ≡ r.ticket)

module _ (g g' : NumberedGate) (r : NumberedRecord) (e : Made) where
  same : (c : Call) → outcome_of g' r (Ok e) ≡ alone c g r → Same c r e.record
  unfolding called_numbered taken_numbered looked_numbered left_numbered placed_numbered marked_numbered
  same Take h = grind arith
  same Look h = grind arith
  same Leave h = grind arith
  same Place h = grind arith
  same Stop h = grind arith
  same Wake h = grind arith

-- A refusal leaves the words as they were.
module _ (g g' : NumberedGate) (r : NumberedRecord) (why : Refusal) where
  words_kept : (c : Call) → outcome_of g' r (Err why) ≡ alone c g r → g' ≡ g
  unfolding called_numbered taken_numbered looked_numbered left_numbered placed_numbered marked_numbered
  words_kept Take h = grind arith
  words_kept Look h = grind arith
  words_kept Leave h = grind arith
  words_kept Place h = grind arith
  words_kept Stop h = grind arith
  words_kept Wake h = grind arith

-- So the slices of those fields are as they were.
leaves : (c : Call) (s : NumberedLent) (at : ℕ) (r r' : NumberedRecord) → r ≡ numbered_record (get_or s.regions at 0) (get_or s.marks at 0) (get_or s.tickets at 0)
    → Same c r r' → Leaves c s at r'
leaves Take s at r r' q h = grind (arith, set-get_or s.marks at 0)
leaves Look s at r r' q h = grind (arith, set-get_or s.marks at 0, set-get_or s.tickets at 0)
leaves Leave s at r r' q h = grind (arith, set-get_or s.marks at 0)
leaves Place s at r r' q h = grind (arith, set-get_or s.regions at 0, set-get_or s.marks at 0, set-get_or s.tickets at 0)
leaves Stop s at r r' q h = grind (arith, set-get_or s.regions at 0, set-get_or s.tickets at 0)
leaves Wake s at r r' q h = grind (arith, set-get_or s.regions at 0, set-get_or s.tickets at 0)

module _ (c : Call) (g : NumberedGate) (rs ms ts : List ℕ) (p : ℕ) where
  abbrev s : NumberedLent
  s = numbered_lent rs ms ts

  abbrev l : List NumberedRecord
  l = numbered_records_of s

  -- Slices of the length N are those of their records.
  slices_are : numbered_length_is s g.n ≡ true → numbered_lent_of l ≡ s
  slices_are a = let w = all_long rs ms ts g.n a in lent_records rs ms ts (w.marks ∙ sym w.regions) (w.tickets ∙ sym w.regions)

  -- Refusals 2, 3 and 4.
  pub refused_first : (r : Refusal) → Err r ≡ begins (numbered_length_is s g.n) (sound_numbered g l) g.n p → Decides c g s p (Err r)
  unfolding begins call_numbered_lent call_numbered
  refused_first r e =
      by_bool (numbered_length_is s g.n)
      (λ h. let long = counted_records rs ms ts g.n h in let same = slices_are h in grind arith)
      (λ h. grind arith)

  -- No refusal 2, 3 or 4 came, and r is plugin p's record.
  module _ (at : ℕ) (z : Ok at ≡ begins (numbered_length_is s g.n) (sound_numbered g l) g.n p) (r : NumberedRecord) (q : r ≡ get_or l at idle_numbered) where
    f : Found (numbered_length_is s g.n) (sound_numbered g l) g.n p at
    f = found_place _ _ _ _ at z

    is_record : r ≡ record_at l p
    is_record = q ∙ ap (λ (i : ℕ). get_or l i idle_numbered) f.at_is

    -- The outcome of the call is what it makes of that record.
    outcome : (g' : NumberedGate) (made : Result Made Refusal) → outcome_of g' r made ≡ alone c g r → call_numbered_lent c g s p ≡ on_numbered_slices (lifted l p (outcome_of g' r made))
    unfolding call_numbered_lent call_numbered
    outcome g' made m =
        rw (f.has_length, eq-eqb _ _ (counted_records rs ms ts g.n f.has_length), f.is_sound, f.in_range, called_alone g l p c, sym is_record, m) refl

    -- Refusals from 5 on.
    pub refused : (g' : NumberedGate) (why : Refusal) → outcome_of g' r (Err why) ≡ alone c g r → Decides c g s p (Err why)
    refused g' why m =
        let o = outcome g' (Err why) m in
        let k : with_record_at l p r ≡ l = ap (with_record_at l p) is_record ∙ kept g l p in
        let same = slices_are f.has_length in
        let words = words_kept g g' r why c m in
        grind arith

    -- A record written in the list is written in the slices.
    written : (x : NumberedRecord) → numbered_lent_of (with_record_at l p x) ≡ set_numbered s at x
    written x =
        let w = all_long rs ms ts g.n f.has_length in
        rw (lent_set l (p - 1) x, regions_of rs ms ts, marks_of rs ms ts (w.marks ∙ sym w.regions), tickets_of rs ms ts (w.tickets ∙ sym w.regions), sym f.at_is) refl

    within : IsWithin at s
    within =
        let w = all_long rs ms ts g.n f.has_length in
        record { in_regions = omega (arith, f.below, w.regions); in_marks = omega (arith, f.below, w.marks); in_tickets = omega (arith, f.below, w.tickets) }

    -- An accepted call.
    pub decided : (g' : NumberedGate) (e : Made) → outcome_of g' r (Ok e) ≡ alone c g r → Decides c g s p (Ok (at, (e.record, record { gate = g'; answer = e.answer })))
    decided g' e m =
        let o = outcome g' (Ok e) m in
        let w = written e.record in (
          within,
          grind arith,
          leaves c s at r e.record (q ∙ records_at idle_numbered rs ms ts at within.in_regions) (same g g' r e c m),
        )
