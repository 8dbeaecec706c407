-- Places counted in returns (A.1): in a sound gate a held ticket that is not valid has 1 return or more to wait for, and no two of them wait
-- for equally many. So a place of 0 says that the turn has come. In any block that fits.
--
-- Main statements: `returns_place` (the j-th place after VALID waits for j returns), `returns_pos`, `returns_zero`, `returns_distinct`.
use Prim.Native.Nat.{suc, ℕ, ◌<◌, ◌≤◌}
use mathlib.Core.Path.{ap, refl, sym, ◌∙◌, ◌≡◌}
use mathlib.Core.Bool.{false, true}
use mathlib.Core.List.{List}
use native.Mathlib.Omega.{arith}
use lib.ListN.{get_or, length}
use borrow.Author.Tests.{not-false}
use Rattle.model.specs.declared.Gate.{Gate}
use Rattle.model.specs.declared.Record.{Record}
use Rattle.model.specs.declared.Ticket.{Ticket}
use Rattle.model.specs.Calls.{idle_record}
use Rattle.model.specs.Sound.{among, behind_in, held, holds, pending_in, ticket_of}
use Rattle.model.specs.Steps.{Block, col, distance_in, is_valid, returns_in}
use Rattle.model.proofs.Blocks.{place, place_distance}
use Rattle.model.proofs.IsSound.{IsSoundIn}
use Rattle.model.proofs.Logic.{by_bool, by_eq}
use Rattle.model.proofs.RecordTests.{holds_i}
use Rattle.model.proofs.Rows.{count_two}
use Rattle.model.proofs.SoundLaws.{behind_lt}
use Rattle.model.proofs.Validity.{pending_use, valid_is}

-- The two cases.
pub returns_valid : (B : Block) (g : Gate) (t : Ticket) → is_valid g t ≡ true → returns_in B g t ≡ 0
unfolding returns_in
returns_valid B g t e = rw e (omega arith)

pub returns_later : (B : Block) (g : Gate) (t : Ticket) → is_valid g t ≡ false → returns_in B g t ≡ distance_in B g t
unfolding returns_in
returns_later B g t e = rw e (omega arith)

module _ {B : Block} (g : Gate) (l : List Record) (s : IsSoundIn B g l) where
  -- The ticket in record i.
  abbrev ticketAt : ℕ → Ticket
  ticketAt i = ticket_of (get_or l i idle_record)

  -- The j-th place after VALID.
  abbrev placeAt : ℕ → Ticket
  placeAt j = place B (col g.issue) g.valid j

  pub place_returns : (j : ℕ) → j < behind_in B g → distance_in B g (placeAt (suc j)) ≡ suc j
  unfolding distance_in
  place_returns j b = place_distance B (col g.issue) g.valid (suc j) s.valid_in_lem.high (omega (arith, behind_lt g l s))

  -- A held ticket that is not valid is one of the places after VALID, and its number there is its returns.
  pub returns_place : (i : ℕ) → i < length l → held (get_or l i idle_record) ≡ true → is_valid g (ticketAt i) ≡ false
      → (j : ℕ) × (j < behind_in B g) × (ticketAt i ≡ placeAt (suc j)) × (returns_in B g (ticketAt i) ≡ suc j)
  returns_place i h hd e =
      let v : among (ticketAt i) (pending_in B g) ≡ true = not-false _ (sym (valid_is g l s i h hd) ∙ e) in
      let w = pending_use g l s (ticketAt i) v in
      (w.0, w.1, w.2, returns_later B g (ticketAt i) e ∙ ap (distance_in B g) w.2 ∙ place_returns w.0 w.1)

  -- It waits for 1 return or more.
  pub returns_pos : (i : ℕ) → i < length l → held (get_or l i idle_record) ≡ true → is_valid g (ticketAt i) ≡ false → 1 ≤ returns_in B g (ticketAt i)
  returns_pos i h hd e = omega (arith, (returns_place i h hd e).3)

  -- So a held ticket with no return to wait for is valid.
  pub returns_zero : (i : ℕ) → i < length l → held (get_or l i idle_record) ≡ true → returns_in B g (ticketAt i) ≡ 0 → is_valid g (ticketAt i) ≡ true
  returns_zero i h hd z = by_bool (is_valid g (ticketAt i)) (λ e. e) (λ e. absurd (omega (arith, returns_pos i h hd e)))

  -- No two that are not valid wait for equally many.
  pub returns_distinct : (i j : ℕ) → i < length l → j < length l → held (get_or l i idle_record) ≡ true → held (get_or l j idle_record) ≡ true
      → is_valid g (ticketAt i) ≡ false → is_valid g (ticketAt j) ≡ false → returns_in B g (ticketAt i) ≡ returns_in B g (ticketAt j) → i ≡ j
  returns_distinct i j a b hi hj vi vj e =
      let w = returns_place i a hi vi in
      let u = returns_place j b hj vj in
      let n : u.0 ≡ w.0 = omega (arith, w.3, u.3) in
      let t : ticketAt j ≡ ticketAt i = u.2 ∙ ap (λ (x : ℕ). placeAt (suc x)) n ∙ sym w.2 in
      by_eq i j
      (λ z. z)
      (λ z. absurd (omega (
        arith,
        s.distinct (ticketAt i),
        count_two (holds (ticketAt i)) l i j idle_record a b z
            (holds_i (get_or l i idle_record) (ticketAt i) hi refl) (holds_i (get_or l j idle_record) (ticketAt i) hj (sym t)),
      )))
