-- What is safe on a record of a sound list: a leave's counts and its row, the first free slot, and a ticket's distance from VALID.
use Prim.Native.Nat.{ℕ, zero, suc, ◌+◌, ◌<◌, ◌≤◌}
use mathlib.Core.Path.{ap, refl, subst, sym, ◌∙◌, ◌≡◌}
use mathlib.Core.Bool.{Bool, cond, false, not, true, true≢false, ◌&&◌}
use mathlib.Core.List.{List, [], ◌∷◌}
use mathlib.Core.Logic.{◌≢◌}
use native.Mathlib.Omega.{arith}
use lib.ListN.{get_or-eq_default, get_or, length}
use lib.Seq.{get_or-set_other, get_or-set_same, set_out}
use lib.Dec.{eqb, leb}
use borrow.Author.Tests.{eq-eqb, eqb-true, ne_eqb}
use Rattle.std.proofs.Common.{Err, Ok, Result}
use Rattle.begin.specs.Begin.{OfSound}
use Rattle.model.specs.declared.Refusal.{Refusal}
use Rattle.model.specs.declared.Refusal.TheVariants.{IsStopped, NotYetValid, WrongRegion}
use Rattle.model.specs.declared.Gate.{Gate}
use Rattle.model.specs.declared.Record.{Record}
use Rattle.model.specs.declared.Ticket.{Ticket}
use Rattle.model.specs.Calls.{count_up, free_slots, head_slot, idle_record, waits_invalid}
use Rattle.model.specs.Lists.{all}
use Rattle.model.specs.Sound.{free_in_order, idle, inside, slots_sound, sound_in, ticket_of}
use Rattle.model.specs.Steps.{InBlock, block_of, col, moved}
use Rattle.model.proofs.Counting.{all_at, count_pos}
use Rattle.model.proofs.HandingBack.{leaver_counted}
use Rattle.model.proofs.IsSound.{IsSound, sound_use}
use Rattle.model.proofs.Logic.{and_l, and_r, by_bool, by_eq, by_lt}
use Rattle.model.proofs.RecordTests.{held_i}
use Rattle.model.proofs.SlotLaws.{own_of, slots_total}
use Rattle.model.proofs.SoundLaws.{count_few}

in_order : (g : Gate) (l : List Record) → slots_sound g l ≡ true → free_in_order g.k g.free ≡ true
unfolding slots_sound
in_order g l e = search (and_l, and_r) depth 6

-- After the free slots of a row that is in order there are only zeros.
zeros_after : (k : ℕ) (free : List ℕ) → free_in_order k free ≡ true → (j : ℕ) → length (free_slots free) ≤ j → get_or free j 0 ≡ 0
unfolding free_in_order free_slots
zeros_after k [] e j h = get_or-eq_default [] 0 {n = j} (omega arith)
zeros_after k (s ∷ free) e zero h =
    by_eq s 0
    (λ z. z)
    (λ n. let few : suc (length (free_slots free)) ≤ 0 = simp (ne_eqb s 0 n) at h in absurd (omega (arith, few)))
zeros_after k (s ∷ free) e (suc j) h =
    by_eq s 0
    (λ z.
    let zeros : all (λ x. eqb x 0) free ≡ true = simp (eq-eqb s 0 z) at e in
    by_lt j (length free) (λ b. eqb-true _ _ (all_at (λ x. eqb x 0) free 0 zeros j b)) (λ b. get_or-eq_default free 0 {n = j} b))
    (λ n.
    let rest : (leb s k && free_in_order k free) ≡ true = simp (ne_eqb s 0 n) at e in
    let few : suc (length (free_slots free)) ≤ suc j = simp (ne_eqb s 0 n) at h in
    zeros_after k free (and_r (leb s k) _ rest) j (omega (arith, few)))

none_first : (free : List ℕ) → head_slot free ≡ 0 → length (free_slots free) ≡ 0
unfolding free_slots
none_first [] z = refl
none_first (s ∷ free) z = ap (λ (b : Bool). length (cond b [] (s ∷ free_slots free))) (eq-eqb s 0 z)

-- Counting one up leaves every other count above 0 that was.
up_keeps : (xs : List ℕ) (a c : ℕ) → 0 < get_or xs c 0 → 0 < get_or (count_up xs a) c 0
up_keeps xs a c h =
    by_eq c a
    (λ e. by_lt a (length xs)
    (λ k. rw e (rw (get_or-set_same xs a (get_or xs a 0 + 1) 0 k) (omega arith)))
    (λ k. rw (set_out xs a (get_or xs a 0 + 1) k) h))
    (λ e. rw (get_or-set_other xs a c (get_or xs a 0 + 1) 0 e) h)

-- What is known where refusals 5 and 6 did not come.
pub in_region : (r : Record) (wanted : ℕ)
    → ◌≡◌ {A = Result Unit Refusal} (Ok tt) (cond (eqb r.mark 1) (Err IsStopped) (cond (eqb r.region wanted) (Ok tt) (Err WrongRegion)))
    → (eqb r.mark 1 ≡ false) × (r.region ≡ wanted)
in_region r wanted e =
    by_bool (eqb r.mark 1)
    (λ m. let z : ◌≡◌ {A = Result Unit Refusal} (Ok tt) (Err IsStopped) = rw m at e in let y : ◌≡◌ {A = ℕ} 0 1 = cc in absurd (omega arith))
    (λ m. by_bool (eqb r.region wanted)
    (λ i. (m, eqb-true _ _ i))
    (λ i. let z : ◌≡◌ {A = Result Unit Refusal} (Ok tt) (Err WrongRegion) = rw (m, i) at e in let y : ◌≡◌ {A = ℕ} 0 1 = cc in absurd (omega arith)))

-- What is known where refusals 5, 6 and 9 of a leave did not come.
pub may_leave : (r : Record) (v : Bool)
    → ◌≡◌ {A = Result Unit Refusal} (Ok tt)
    (cond (eqb r.mark 1) (Err IsStopped) (cond (eqb r.region 0) (Err WrongRegion) (cond (eqb r.region 1 && not v) (Err NotYetValid) (Ok tt))))
    → (r.region ≢ 0) × ((eqb r.region 1 && not v) ≡ false)
may_leave r v e =
    by_bool (eqb r.mark 1)
    (λ m. let z : ◌≡◌ {A = Result Unit Refusal} (Ok tt) (Err IsStopped) = rw m at e in let y : ◌≡◌ {A = ℕ} 0 1 = cc in absurd (omega arith))
    (λ m. by_bool (eqb r.region 0)
    (λ i. let z : ◌≡◌ {A = Result Unit Refusal} (Ok tt) (Err WrongRegion) = rw (m, i) at e in let y : ◌≡◌ {A = ℕ} 0 1 = cc in absurd (omega arith))
    (λ i. by_bool (eqb r.region 1 && not v)
    (λ w. let z : ◌≡◌ {A = Result Unit Refusal} (Ok tt) (Err NotYetValid) = rw (m, i, w) at e in let y : ◌≡◌ {A = ℕ} 0 1 = cc in absurd (omega arith))
    (λ w. ((λ z. absurd (true≢false (sym (eq-eqb _ _ z) ∙ i))), w))))

-- What a leave does is safe: the colours are colours, no count wraps, and a slot that comes back has a place in the row.
pub record LeaveSafe (g : Gate) (r : Record) (t : Ticket) : Type 0 where
  pub given_colour : col t < 65
  pub returned_colour : r.colour.0 < 65
  pub given_count : get_or g.counts (col t) 0 ≤ 64
  pub returned_count : 0 < get_or (count_up g.counts (col t)) r.colour.0 0
  pub row_room : r.slot.0 ≢ 0 → length (free_slots g.free) < g.k

module _ (g : Gate) (r : Record) (o : OfSound g r) where
  s : IsSound g o.list
  s = sound_use g o.list o.is_sound

  has_slots : slots_sound g o.list ≡ true
  has_slots = and_r (sound_in (block_of g) g o.list) (slots_sound g o.list) o.is_sound

  -- The values of a waiting plugin's ticket and of VALID are in the block.
  pub waits_in_block : r.region ≡ 1 → InBlock (block_of g) (ticket_of r) × InBlock (block_of g) g.valid
  waits_in_block e =
      (subst (λ (x : Record). InBlock (block_of g) (ticket_of x)) o.is ((s.records o.place o.within).ticket_in (held_i (get_or o.list o.place idle_record) (λ z. omega (arith, ap (λ (x : Record). x.region) o.is)))), s.valid_in_lem)

  pub few_slots : g.k ≤ 64
  few_slots = s.k_high

  -- At most k slots are free, so that the row is 0 from the place k on.
  pub row_end : (j : ℕ) → g.k ≤ j → get_or g.free j 0 ≡ 0
  row_end j h = zeros_after g.k g.free (in_order g o.list has_slots) j (omega (arith, slots_total g o.list has_slots))

  -- If the first place of the row is 0, all are.
  pub row_order : head_slot g.free ≡ 0 → (j : ℕ) → get_or g.free j 0 ≡ 0
  row_order z j = zeros_after g.k g.free (in_order g o.list has_slots) j (omega (arith, none_first g.free z))

  -- Who has a slot is inside, so that the first k places of the row have room for it.
  row_room : r.slot.0 ≢ 0 → length (free_slots g.free) < g.k
  row_room n =
      by_bool (inside (get_or o.list o.place idle_record))
      (λ y. omega (arith, slots_total g o.list has_slots, count_pos inside o.list o.place idle_record o.within y))
      (λ y. absurd (n (ap (λ (x : Record). x.slot.0) (sym o.is) ∙ (own_of g o.list has_slots o.place o.within).outside_slot y)))

  pub leave_safe : r.region ≢ 0 → waits_invalid g r ≡ false → (t : Ticket) → t ≡ moved (block_of g) g g.valid g.issue → LeaveSafe g r t
  leave_safe n e t q =
      let not_idle : idle (get_or o.list o.place idle_record) ≡ false = ne_eqb _ _ (λ z. n (ap (λ (x : Record). x.region) (sym o.is) ∙ z)) in
      let counted = leaver_counted g o.list s o.place o.within not_idle (ap (waits_invalid g) o.is ∙ e) in
      let c : col t ≤ g.k = rw q counted.0 in
      record {
        given_colour = omega (arith, s.k_high);
        returned_colour = omega (arith, s.k_high, (s.records o.place o.within).colour_ok, ap (λ (x : Record). x.colour.0) o.is);
        given_count = omega (arith, s.k_high, count_few g o.list s (col t) (omega (arith, s.k_high)));
        returned_count = up_keeps g.counts (col t) r.colour.0 (subst (λ (x : Record). 0 < get_or g.counts x.colour.0 0) o.is counted.1);
        row_room = row_room;
      }
