-- The coloured values of the 1989 gate are the numbers' remainders by its block size M.
--
-- Each accepted take or leave raises a word by 1, a coloured one by (value + 1) mod M, and writes it or 0 into a record; all other calls leave words and
-- tickets as they were. So two gates that accept the same calls go on alike, and no relation between colours and numbers is needed.
--
-- Main statements: `moved_value`, `gate_values`, `numbered_values` (one call of either gate), `run_values` (a list of calls).
use Prim.Native.Nat.{ℕ, ◌+◌, ◌-◌, ◌%◌}
use mathlib.Core.Path.{◌≡◌, refl, sym, ap, ap₂, ◌∙◌}
use mathlib.Core.Bool.{Bool, true, false, not, cond, ◌||◌}
use mathlib.Core.List.{List, [], ◌∷◌, map, tail}
use native.Mathlib.Nat.{mod-add-mod, mod-eq_of_lt, mod_self, zero-mod}
use native.Mathlib.Omega.{arith}
use lib.ListN.{length, set}
use lib.Seq.{map-set_same, map-set}
use lib.Dec.{eqb, ltb}
use borrow.Author.Tests.{le-ltb, lt-ltb, not-false}
use Rattle.model.specs.declared.Ticket.{Ticket}
use Rattle.model.specs.declared.Gate.{Gate}
use Rattle.model.specs.declared.Record.{Record}
use Rattle.model.specs.declared.Call.{Call}
use Rattle.model.specs.declared.Call.TheVariants.{Leave, Look, Place, Stop, Take, Wake}
use Rattle.numbered.specs.declared.NumberedGate.{NumberedGate}
use Rattle.numbered.specs.declared.NumberedRecord.{NumberedRecord}
use Rattle.model.specs.Steps.{Block, InBlock, block_of, is_valid, last_value, moved, val}
use Rattle.model.specs.Sound.{idle, sound, ticket_of}
use Rattle.model.specs.Calls.{Outcome, Step, after, call, called_in, idle_record, left_in, looked, marked, placed_in, record_of, refuse, step, taken_in, waits_invalid}
use Rattle.model.specs.Shown.{shown}
use Rattle.model.specs.Claim.{Entry, gate_trace}
use Rattle.model.proofs.Logic.{by_bool, by_lt}
use Rattle.model.proofs.IsSound.{IsSound, sound_use}
use Rattle.numbered.specs.Sound.{is_idle, not_above_valid, sound_numbered}
use Rattle.numbered.specs.Calls.{NumberedOutcome, after_numbered, call_numbered, called_numbered, greatest, idle_numbered, left_numbered, looked_numbered, marked_numbered, placed_numbered, record_at, refuse_numbered, shown_numbered, taken_numbered, waits_above}
use Rattle.numbered.specs.Claim.{numbered_trace}
use Rattle.numbered.proofs.WideCalls.{left_valid, taken_issue}
use Rattle.model.specs.declared.Refusal.{Refusal}
use Rattle.model.specs.declared.Refusal.TheVariants.{CounterFull, IsStopped, NoSuchPlugin, NotSound, NotStopped, NotYetValid, WrongLength, WrongRegion}
use Rattle.model.specs.Refusals.{refusal_number}

-- A moved word's value, in a block whose first value is 0.
pub moved_value : (b : Block) (g : Gate) (a o : Ticket) → b.first ≡ 0 → InBlock b a → val (moved b g a o) ≡ (val a + 1) % b.size
unfolding moved
moved_value b g a o z h =
    by_lt (val a) (last_value b)
    (λ l. rw (lt-ltb _ _ l) (sym (mod-eq_of_lt (omega (arith, z)))))
    (λ l.
    let e : val a + 1 ≡ b.size = omega (arith, z, h.high) in
    rw (le-ltb _ _ l) (z ∙ sym (mod_self b.size) ∙ ap (λ (x : ℕ). x % b.size) (sym e)))

-- ISSUE, VALID and the ticket in each record: a coloured gate's values, a numbered gate's remainders by m.
pub record Values : Type 0 where
  pub issue : ℕ
  pub valid : ℕ
  pub tickets : List ℕ

abbrev pub values_of : Gate → List Record → Values
values_of g l = record { issue = val g.issue; valid = val g.valid; tickets = map (λ r. r.value.0) l }

abbrev pub remainders : ℕ → NumberedGate → List NumberedRecord → Values
remainders m g l = record { issue = g.issue % m; valid = g.valid % m; tickets = map (λ r. r.ticket % m) l }

-- What an accepted call does to them ..
abbrev pub moves : ℕ → Call → ℕ → Values → Values
moves m Take p x = record { issue = (x.issue + 1) % m; valid = x.valid; tickets = set x.tickets (p - 1) ((x.issue + 1) % m) }
moves m Leave p x = record { issue = x.issue; valid = (x.valid + 1) % m; tickets = set x.tickets (p - 1) 0 }
moves m Look p x = x
moves m Place p x = x
moves m Stop p x = x
moves m Wake p x = x

-- .. and a call with this number.
abbrev pub moved_by : ℕ → Call → ℕ → ℕ → Values → Values
moved_by m c p number x = cond (eqb number 0) (moves m c p x) x

-- The 1989 gate, and any other whose block begins with 0.
pub record GateValues (g : Gate) (l : List Record) (c : Call) (p : ℕ) (o : Outcome) : Type 0 where
  pub values_are : values_of o.gate o.list ≡ moved_by (block_of g).size c p (shown o.answer).number (values_of g l)
  pub block_kept : block_of o.gate ≡ block_of g

module _ (g : Gate) (l : List Record) (p : ℕ) where
  refused : (c : Call) (b : Bool) (n : Refusal) (o : Outcome) → eqb (refusal_number n) 0 ≡ false → (b ≡ false → GateValues g l c p o) → GateValues g l c p (refuse b n g l o)
  refused c true n o e f = record { values_are = rw e refl; block_kept = refl }
  refused c false n o e f = f refl

  same_tickets : (r : Record) → r.value.0 ≡ (record_of l p).value.0 → map (λ y. y.value.0) (set l (p - 1) r) ≡ map (λ y. y.value.0) l
  same_tickets r e = map-set_same (λ y. y.value.0) l (p - 1) r idle_record e

  abbrev withTickets : List ℕ → Values
  withTickets ts = record { issue = val g.issue; valid = val g.valid; tickets = ts }

  take_values : (block_of g).first ≡ 0 → InBlock (block_of g) g.issue → GateValues g l Take p (taken_in (block_of g) g l p)
  unfolding taken_in
  take_values z h =
      let t = moved_value (block_of g) g g.issue g.valid z h in
      record {
        values_are =
            ap₂ (λ (v : ℕ) (ts : List ℕ). record { issue = v; valid = val g.valid; tickets = ts }) t
            (map-set (λ y. y.value.0) l (p - 1) _ ∙ ap (set (map (λ y. y.value.0) l) (p - 1)) t);
        block_kept = refl;
      }

  leave_values : (block_of g).first ≡ 0 → InBlock (block_of g) g.valid → GateValues g l Leave p (left_in (block_of g) g l p)
  unfolding left_in
  leave_values z h = record {
    values_are =
        ap₂ (λ (v : ℕ) (ts : List ℕ). record { issue = val g.issue; valid = v; tickets = ts }) (moved_value (block_of g) g g.valid g.issue z h)
        (map-set (λ y. y.value.0) l (p - 1) _);
    block_kept = refl;
  }

  look_values : GateValues g l Look p (looked g l p)
  unfolding looked
  look_values =
      by_bool (is_valid g (ticket_of (record_of l p)))
      (λ e. rw e (record { values_are = ap withTickets (same_tickets _ refl); block_kept = refl }))
      (λ e. rw e (record { values_are = refl; block_kept = refl }))

  place_values : GateValues g l Place p (placed_in (block_of g) g l p)
  unfolding placed_in
  place_values = record { values_are = refl; block_kept = refl }

  stop_values : GateValues g l Stop p (marked 1 g l p)
  unfolding marked
  stop_values = record { values_are = ap withTickets (same_tickets _ refl); block_kept = refl }

  wake_values : GateValues g l Wake p (marked 0 g l p)
  unfolding marked
  wake_values = record { values_are = ap withTickets (same_tickets _ refl); block_kept = refl }

  called_values : (block_of g).first ≡ 0 → IsSound g l → (c : Call) → GateValues g l c p (called_in (block_of g) c g l p)
  unfolding called_in
  called_values z s Take =
      refused Take (eqb (record_of l p).mark 1) IsStopped _ refl (λ e. refused Take (not (eqb (record_of l p).region 0)) WrongRegion _ refl (λ f. take_values z s.issue_in))
  called_values z s Look =
      refused Look (eqb (record_of l p).mark 1) IsStopped _ refl (λ e. refused Look (not (eqb (record_of l p).region 1)) WrongRegion _ refl (λ f. look_values))
  called_values z s Leave =
      refused Leave (eqb (record_of l p).mark 1) IsStopped _ refl (λ e.
      refused Leave (idle (record_of l p)) WrongRegion _ refl (λ f. refused Leave (waits_invalid g (record_of l p)) NotYetValid _ refl (λ w. leave_values z s.valid_in_lem)))
  called_values z s Place =
      refused Place (eqb (record_of l p).mark 1) IsStopped _ refl (λ e. refused Place (not (eqb (record_of l p).region 1)) WrongRegion _ refl (λ f. place_values))
  called_values z s Stop = refused Stop (eqb (record_of l p).mark 1) IsStopped _ refl (λ e. stop_values)
  called_values z s Wake = refused Wake (eqb (record_of l p).mark 0) NotStopped _ refl (λ e. wake_values)

  pub gate_values : (block_of g).first ≡ 0 → (c : Call) → GateValues g l c p (call c g l p)
  unfolding call
  gate_values z c =
      refused c (not (eqb (length l) g.n)) WrongLength _ refl (λ e2.
      refused c (not (sound g l)) NotSound _ refl (λ e3.
      refused c (eqb p 0 || ltb g.n p) NoSuchPlugin _ refl (λ e4. called_values z (sound_use g l (not-false _ e3)) c)))

-- The numbered gate, by any m.
pub record NumberedValues (m : ℕ) (g : NumberedGate) (l : List NumberedRecord) (c : Call) (p : ℕ) (o : NumberedOutcome) : Type 0 where
  pub values_are : remainders m o.gate o.list ≡ moved_by m c p (shown_numbered o.answer).number (remainders m g l)

module _ (m : ℕ) (g : NumberedGate) (l : List NumberedRecord) (p : ℕ) where
  refused_numbered : (c : Call) (b : Bool) (n : Refusal) (o : NumberedOutcome) → eqb (refusal_number n) 0 ≡ false → NumberedValues m g l c p o → NumberedValues m g l c p (refuse_numbered b n g l o)
  refused_numbered c true n o e f = record { values_are = rw e refl }
  refused_numbered c false n o e f = f

  same_numbers : (r : NumberedRecord) → r.ticket ≡ (record_at l p).ticket → map (λ y. y.ticket % m) (set l (p - 1) r) ≡ map (λ y. y.ticket % m) l
  same_numbers r e = map-set_same (λ y. y.ticket % m) l (p - 1) r idle_numbered (ap (λ (x : ℕ). x % m) e)

  abbrev withNumbers : List ℕ → Values
  withNumbers ts = record { issue = g.issue % m; valid = g.valid % m; tickets = ts }

  -- One more, and the remainder of it.
  up : (x y : ℕ) → y ≡ x + 1 → y % m ≡ (x % m + 1) % m
  up x y e = ap (λ (z : ℕ). z % m) e ∙ sym (mod-add-mod x m 1)

  take_numbers : NumberedValues m g l Take p (taken_numbered g l p)
  unfolding taken_numbered
  take_numbers =
      let t = up g.issue (taken_numbered g l p).gate.issue (taken_issue g l p) in
      record {
        values_are =
            ap₂ (λ (v : ℕ) (ts : List ℕ). record { issue = v; valid = g.valid % m; tickets = ts }) t
            (map-set (λ y. y.ticket % m) l (p - 1) _ ∙ ap (set (map (λ y. y.ticket % m) l) (p - 1)) t);
      }

  leave_numbers_lem : NumberedValues m g l Leave p (left_numbered g l p)
  unfolding left_numbered
  leave_numbers_lem = record {
    values_are =
        ap₂ (λ (v : ℕ) (ts : List ℕ). record { issue = g.issue % m; valid = v; tickets = ts })
        (up g.valid (left_numbered g l p).gate.valid (left_valid g l p))
        (map-set (λ y. y.ticket % m) l (p - 1) _ ∙ ap (set (map (λ y. y.ticket % m) l) (p - 1)) (zero-mod m));
  }

  look_numbers : NumberedValues m g l Look p (looked_numbered g l p)
  unfolding looked_numbered
  look_numbers =
      by_bool (not_above_valid g (record_at l p).ticket)
      (λ e. rw e (record { values_are = ap withNumbers (same_numbers _ refl) }))
      (λ e. rw e (record { values_are = refl }))

  place_numbers_lem : NumberedValues m g l Place p (placed_numbered g l p)
  unfolding placed_numbered
  place_numbers_lem = record { values_are = refl }

  stop_numbers : NumberedValues m g l Stop p (marked_numbered 1 g l p)
  unfolding marked_numbered
  stop_numbers = record { values_are = ap withNumbers (same_numbers _ refl) }

  wake_numbers : NumberedValues m g l Wake p (marked_numbered 0 g l p)
  unfolding marked_numbered
  wake_numbers = record { values_are = ap withNumbers (same_numbers _ refl) }

  called_numbers : (c : Call) → NumberedValues m g l c p (called_numbered c g l p)
  unfolding called_numbered
  called_numbers Take =
      refused_numbered Take (eqb (record_at l p).mark 1) IsStopped _ refl
      (refused_numbered Take (not (eqb (record_at l p).region 0)) WrongRegion _ refl (refused_numbered Take (eqb g.issue greatest) CounterFull _ refl take_numbers))
  called_numbers Look =
      refused_numbered Look (eqb (record_at l p).mark 1) IsStopped _ refl (refused_numbered Look (not (eqb (record_at l p).region 1)) WrongRegion _ refl look_numbers)
  called_numbers Leave =
      refused_numbered Leave (eqb (record_at l p).mark 1) IsStopped _ refl
      (refused_numbered Leave (is_idle (record_at l p)) WrongRegion _ refl
      (refused_numbered Leave (waits_above g (record_at l p)) NotYetValid _ refl (refused_numbered Leave (eqb g.valid greatest) CounterFull _ refl leave_numbers_lem)))
  called_numbers Place =
      refused_numbered Place (eqb (record_at l p).mark 1) IsStopped _ refl (refused_numbered Place (not (eqb (record_at l p).region 1)) WrongRegion _ refl place_numbers_lem)
  called_numbers Stop = refused_numbered Stop (eqb (record_at l p).mark 1) IsStopped _ refl stop_numbers
  called_numbers Wake = refused_numbered Wake (eqb (record_at l p).mark 0) NotStopped _ refl wake_numbers

  pub numbered_values : (c : Call) → NumberedValues m g l c p (call_numbered c g l p)
  unfolding call_numbered
  numbered_values c =
      refused_numbered c (not (eqb (length l) g.n)) WrongLength _ refl
      (refused_numbered c (not (sound_numbered g l)) NotSound _ refl (refused_numbered c (eqb p 0 || ltb g.n p) NoSuchPlugin _ refl (called_numbers c)))

-- The first number of a trace.
abbrev first_number : List Entry → ℕ
first_number [] = 0
first_number (e ∷ es) = e.number

-- Two gates, one of each kind, that answer a list of calls alike and begin with equal values end with equal values.
pub run_values : (b : Block) → b.first ≡ 0 → (g : Gate) (l : List Record) → block_of g ≡ b → (ng : NumberedGate) (nl : List NumberedRecord)
    → values_of g l ≡ remainders b.size ng nl → (s : List Step) → numbered_trace ng nl s ≡ gate_trace g l s
    → values_of (after g l s).gate (after g l s).list ≡ remainders b.size (after_numbered ng nl s).gate (after_numbered ng nl s).list
unfolding after after_numbered numbered_trace gate_trace
run_values b z g l e ng nl v [] t = v
run_values b z g l e ng nl v (step c p ∷ s) t =
    let o = call c g l p in
    let x = call_numbered c ng nl p in
    let h = gate_values g l p (ap (λ (y : Block). y.first) e ∙ z) c in
    let w : values_of o.gate o.list ≡ remainders b.size x.gate x.list =
    h.values_are
    ∙ ap (λ (y : Block). moved_by y.size c p (shown o.answer).number (values_of g l)) e
    ∙ ap₂ (moved_by b.size c p) (sym (ap first_number t)) v
    ∙ sym (numbered_values b.size ng nl p c).values_are in
    run_values b z o.gate o.list (h.block_kept ∙ e) x.gate x.list w s (ap tail t)
