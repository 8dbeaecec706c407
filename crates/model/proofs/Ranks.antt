-- The order among tickets not yet valid: in a sound gate their distances are 1, 2, .. up to the lead, each once. In any block that fits.
--
-- Main statements: `rank_is` (a ticket not yet valid has as many before it as its distance less 1), `invalid_count` (how many there are),
-- `returns_ticket` (a held ticket is known by its returns, if these are not 0).
use Prim.Native.Nat.{suc, zero, ℕ, ◌+◌, ◌<◌, ◌≤◌}
use mathlib.Core.Path.{ap, refl, sym, ◌∙◌, ◌≡◌}
use mathlib.Core.Bool.{Bool, false, not, true, ◌&&◌}
use mathlib.Core.List.{List}
use mathlib.Core.Logic.{◌≢◌}
use native.Mathlib.Omega.{arith}
use lib.ListN.{get_or, length}
use lib.Dec.{ltb}
use borrow.Author.Tests.{le-ltb, lt-ltb, ltb-true, not-true}
use Rattle.model.specs.declared.Gate.{Gate}
use Rattle.model.specs.declared.Record.{Record}
use Rattle.model.specs.declared.Ticket.{Ticket}
use Rattle.model.specs.Calls.{idle_record}
use Rattle.model.specs.Alike.{before_in, holds_invalid}
use Rattle.model.specs.Lists.{count, one_if}
use Rattle.model.specs.Sound.{among, behind_in, held, holds, pending_in, ticket_of}
use Rattle.model.specs.Steps.{Block, col, distance_in, is_valid, returns_in, same_ticket}
use Rattle.model.proofs.Blocks.{place}
use Rattle.model.proofs.Counting.{count_none, count_same, count_sum_lem}
use Rattle.model.proofs.IsSound.{IsSoundIn}
use Rattle.model.proofs.Logic.{and_i, and_l, and_r, by_bool, by_lt, clash, not_i, not_not}
use Rattle.model.proofs.RecordTests.{holds_i, holds_is}
use Rattle.model.proofs.Returns.{place_returns, returns_later, returns_place, returns_valid}
use Rattle.model.proofs.SoundLaws.{held_once}
use Rattle.model.proofs.Validity.{pending_at, pending_not}

pub invalid_use : (g : Gate) (x : Record) → holds_invalid g x ≡ true → (held x ≡ true) × (is_valid g (ticket_of x) ≡ false)
invalid_use g x e = (and_l (held x) (not (is_valid g (ticket_of x))) e, not-true _ (and_r (held x) (not (is_valid g (ticket_of x))) e))

pub invalid_i : (g : Gate) (x : Record) → held x ≡ true → is_valid g (ticket_of x) ≡ false → holds_invalid g x ≡ true
invalid_i g x h e = and_i (held x) _ h (not_not _ e)

module _ {B : Block} (g : Gate) (l : List Record) (s : IsSoundIn B g l) where
  -- Record i, and the j-th place after VALID.
  abbrev at : ℕ → Record
  at i = get_or l i idle_record

  abbrev placeAt : ℕ → Ticket
  placeAt j = place B (col g.issue) g.valid j

  -- A ticket not yet valid whose distance is below d.
  abbrev nearer : ℕ → Record → Bool
  nearer d x = holds_invalid g x && ltb (distance_in B g (ticket_of x)) d

  -- A held ticket with returns j + 1 is the place j + 1 after VALID.
  pub returns_ticket : (i j : ℕ) → i < length l → held (at i) ≡ true → returns_in B g (ticket_of (at i)) ≡ suc j → ticket_of (at i) ≡ placeAt (suc j)
  returns_ticket i j h hd e =
      let v : is_valid g (ticket_of (at i)) ≡ false = not_i _ (λ w. omega (arith, returns_valid B g (ticket_of (at i)) w)) in
      let w = returns_place g l s i h hd v in
      let n : w.0 ≡ j = omega (arith, w.3) in
      w.2 ∙ ap (λ (y : ℕ). placeAt (suc y)) n

  -- A ticket not yet valid is the place after VALID that its distance says.
  invalid_place : (i : ℕ) → i < length l → holds_invalid g (at i) ≡ true
      → (j : ℕ) × (j < behind_in B g) × (ticket_of (at i) ≡ placeAt (suc j)) × (distance_in B g (ticket_of (at i)) ≡ suc j)
  invalid_place i h e =
      let y = invalid_use g (at i) e in
      let w = returns_place g l s i h y.0 y.1 in
      (w.0, w.1, w.2, sym (returns_later B g (ticket_of (at i)) y.1) ∙ w.3)

  -- Those below j + 2 are those below j + 1 and the holder of the place j + 1.
  one_more : (j : ℕ) → j < behind_in B g → (i : ℕ) → i < length l
      → one_if (nearer (suc (suc j)) (at i)) ≡ one_if (nearer (suc j) (at i)) + one_if (holds (placeAt (suc j)) (at i))
  one_more j b i h =
      let x = at i in
      let t = placeAt (suc j) in
      let d = distance_in B g (ticket_of x) in
      by_bool (holds t x)
      (λ e.
      let same : t ≡ ticket_of x = holds_is x t e in
      let hd : held x ≡ true = and_l (held x) (same_ticket t (ticket_of x)) e in
      let v : is_valid g (ticket_of x) ≡ false = ap (is_valid g) (sym same) ∙ pending_not g l s t (pending_at g l s t j b refl) in
      let n : holds_invalid g x ≡ true = invalid_i g x hd v in
      let q : d ≡ suc j = ap (distance_in B g) (sym same) ∙ place_returns g l s j b in
      simp (e, n, lt-ltb d (suc (suc j)) (omega arith), le-ltb d (suc j) (omega arith)))
      (λ e.
      by_bool (holds_invalid g x)
      (λ n.
      let w = invalid_place i h n in
      let other : d ≢ suc j =
      λ a. clash _ (holds_i x t (invalid_use g x n).0 (ap (λ (u : ℕ). placeAt u) (sym a ∙ w.3) ∙ sym w.2)) e in
      by_lt d (suc j)
      (λ a. simp (e, n, lt-ltb d (suc (suc j)) (omega arith), lt-ltb d (suc j) a))
      (λ a. simp (e, n, le-ltb d (suc (suc j)) (omega (arith, other)), le-ltb d (suc j) a)))
      (λ n. simp (e, n)))

  -- Those below j + 1 number j.
  below_rank : (j : ℕ) → j ≤ behind_in B g → count (nearer (suc j)) l ≡ j
  below_rank zero h =
      count_none (nearer 1) l idle_record (λ i b. not_i _ (λ e.
      let w = invalid_place i b (and_l (holds_invalid g (at i)) _ e) in
      omega (arith, w.3, ltb-true (distance_in B g (ticket_of (at i))) 1 (and_r (holds_invalid g (at i)) (ltb (distance_in B g (ticket_of (at i))) 1) e))))
  below_rank (suc j) h =
      let p : among (placeAt (suc j)) (pending_in B g) ≡ true = pending_at g l s (placeAt (suc j)) j (omega arith) refl in
      omega (
        arith,
        below_rank j (omega arith),
        held_once g l s (placeAt (suc j)) p,
        count_sum_lem (nearer (suc (suc j))) (nearer (suc j)) (holds (placeAt (suc j))) l idle_record (λ i b. one_more j (omega arith) i b),
      )

  -- The number of those before a ticket not yet valid, and 1, is its distance.
  pub rank_is : (i : ℕ) → i < length l → holds_invalid g (at i) ≡ true
      → suc (count (λ x. holds_invalid g x && before_in B g x (at i)) l) ≡ distance_in B g (ticket_of (at i))
  rank_is i h e =
      let w = invalid_place i h e in
      ap (λ (n : ℕ). suc (count (nearer n) l)) w.3 ∙ ap suc (below_rank w.0 (omega (arith, w.1))) ∙ sym w.3

  -- In all they number as many as the places after VALID up to ISSUE.
  pub invalid_count : count (holds_invalid g) l ≡ behind_in B g
  invalid_count =
      count_same (holds_invalid g) (nearer (suc (behind_in B g))) l idle_record (λ i h.
      by_bool (holds_invalid g (at i))
      (λ e.
      let w = invalid_place i h e in
      e ∙ sym (and_i (holds_invalid g (at i)) _ e (lt-ltb (distance_in B g (ticket_of (at i))) (suc (behind_in B g)) (omega (arith, w.1, w.3)))))
      (λ e. e ∙ sym (ap (λ (b : Bool). b && ltb (distance_in B g (ticket_of (at i))) (suc (behind_in B g))) e)))
      ∙ below_rank (behind_in B g) (omega arith)
