-- The slots that have been met, after a first part of the free row, i records and the rest of the row.
--
-- Main statements: `RowPassed`, `row_next`, `row_fails`, `row_done` (the loop over a part of the row); `SlotsPassed`, `slots_next` (the pass over
-- the list); `unsound_early`, `slots_start`, `unsound_slot`, `unsound_late`, `unsound_unmet` and `slots_right` (what each return shows).
use Prim.Native.Nat.{suc, zero, ℕ, ◌%◌, ◌*◌, ◌+◌, ◌-◌, ◌/◌, ◌<◌, ◌^◌, ◌≤◌}
use mathlib.Core.Path.{ap, refl, subst, sym, ◌∙◌, ◌≡◌}
use mathlib.Core.Bool.{Bool, false, not, true, ◌&&◌}
use mathlib.Core.List.{List, [], ◌++◌, ◌∷◌}
use mathlib.Core.Logic.{◌≢◌}
use mir.Val.{bool_byte}
use native.Mathlib.Nat.{div-le_self}
use native.Mathlib.Omega.{arith}
use lib.ListN.{drop, get_or, length, length-drop, replicate, take, take-append-drop}
use lib.Seq.{get_or-take, length-take-le, take_all, take-append_seam}
use lib.Dec.{eqb, leb}
use borrow.Author.Tests.{eq-eqb, eqb-true, le-leb, leb-true, ne_eqb}
use mir.Syntax.{w64}
use Rattle.std.proofs.lemmas.List.{get_or-drop}
use Rattle.std.specs.Int.{bit_at, bit_not}
use Rattle.std.specs.Int.RustNames.{bit_or}
use Rattle.std.specs.List.{fold, sum_by}
use Rattle.std.proofs.lemmas.Nat.Bits.{bit_at-lt, bit_at_not, bit_at_ones, bit_at_ones_above, bit_at_set_other, bit_at_set_same, ones_shr, same_from_bits, same_from_bits_below}
use Rattle.model.specs.declared.Gate.{Gate}
use Rattle.model.specs.declared.Record.{Record}
use Rattle.model.specs.Calls.{free_row, free_slots, idle_record}
use Rattle.model.specs.Lists.{count, one_if}
use Rattle.model.specs.Sound.{inside, inside_with, slots_sound, sound, sound_in}
use Rattle.model.specs.Steps.{block_of}
use Rattle.soundness.specs.Slots.{AllMet, Noted, NotedOf, RowNoted, RowRight, Table, times_met}
use Rattle.model.proofs.Counting.{count_append, count_le, count_same}
use Rattle.model.proofs.IsSound.{Each}
use Rattle.model.proofs.Logic.{and_i, and_l, and_r, by_eq, by_lt, clash, not_not}
use Rattle.model.proofs.Relation.{times}
use Rattle.model.proofs.SlotLaws.{EachSlot, HasSlots, IsSlot, SlotInRange, slots_i, slots_use}
use Rattle.model.proofs.SoundLaws.{count_true}
use Rattle.ranges.proofs.Tests.{answer_no}
use Rattle.soundness.proofs.Loops.{count_next, count_take_le, each_next}

-- A test as a number.
byte_is : (b : Bool) → bool_byte b ≡ one_if b
byte_is true = refl
byte_is false = refl

-- How many places of the free row are not 0.
abbrev used : List ℕ → ℕ
used free = count (λ x. not (eqb x 0)) free

-- They are at most all, and the sum of 1 for each.
sum_from : (free : List ℕ) (n : ℕ) → fold (λ (a x : ℕ). a + bool_byte (not (eqb x 0))) n free ≡ n + used free
unfolding count
sum_from [] n = omega arith
sum_from (x ∷ free) n = sum_from free (n + bool_byte (not (eqb x 0))) ∙ omega (arith, byte_is (not (eqb x 0)))

pub used_sum : (free : List ℕ) → sum_by (λ x. bool_byte (not (eqb x 0))) free ≡ used free
used_sum free = sum_from free 0 ∙ omega arith

pub used_most : (free : List ℕ) → sum_by (λ x. bool_byte (not (eqb x 0))) free ≤ length free
used_most free = omega (arith, used_sum free, count_le (λ x. not (eqb x 0)) free)

used_all : (row : List ℕ) → EachSlot (λ s. 1 ≤ s) row → used row ≡ length row
used_all row h = count_same (λ x. not (eqb x 0)) (λ x. true) row 0 (λ j z. not_not _ (ne_eqb (get_or row j 0) 0 (λ e. omega (arith, h j z)))) ∙ count_true row

used_none : (free : List ℕ) → used free ≡ 0 → free ≡ replicate (length free) 0
unfolding count
used_none [] e = refl
used_none (zero ∷ free) e = ap (λ (t : List ℕ). 0 ∷ t) (used_none free (omega (arith, e)))
used_none (suc x ∷ free) e = absurd (omega (arith, e, ap one_if (not_not _ (ne_eqb (suc x) 0 (λ z. omega arith)))))

used_zeros : (m : ℕ) → used (replicate m 0) ≡ 0
unfolding count
used_zeros zero = refl
used_zeros (suc m) = omega (arith, used_zeros m)

-- The row in order is as many of the first places as are not 0.
row_is : (free row : List ℕ) → free ≡ free_row row → EachSlot (λ s. 1 ≤ s) row → take (used free) free ≡ row
row_is free row e h =
    let n : used free ≡ length row = ap used e ∙ count_append (λ x. not (eqb x 0)) row (replicate (64 - length row) 0) ∙ omega (arith, used_all row h, used_zeros (64 - length row)) in
    ap (λ (m : ℕ). take m free) n ∙ ap (take (length row)) e ∙ take-append_seam row (replicate (64 - length row) 0)

is_row : (free : List ℕ) → length free ≡ 64 → EachSlot (λ s. 1 ≤ s) (take (used free) free) → free ≡ free_row (take (used free) free)
is_row free long h =
    let u = used free in
    let n : length (take u free) ≡ u = length-take-le u free (count_le (λ x. not (eqb x 0)) free) in
    let z : used (drop u free) ≡ 0 =
    omega (arith, used_all (take u free) h, n, ap used (take-append-drop u free), count_append (λ x. not (eqb x 0)) (take u free) (drop u free)) in
    let m : length (drop u free) ≡ 64 - length (take u free) = omega (arith, length-drop u free, n) in
    sym (take-append-drop u free) ∙ ap (λ (t : List ℕ). take u free ++ t) (used_none (drop u free) z ∙ ap (λ (x : ℕ). replicate x 0) m)

-- The slots before any is met.
shifted : (k : ℕ) → k ≤ 64 → (2 ^ 64 - 1) / 2 ^ (64 - k) ≡ 2 ^ k - 1
shifted k few = ones_shr 64 (64 - k) (omega arith) ∙ ap (λ (x : ℕ). 2 ^ x - 1) (omega arith)

module _ (k : ℕ) (few : k ≤ 64) where
  abbrev start : ℕ
  start = bit_not w64 ((2 ^ 64 - 1) / 2 ^ (64 - k))

  start_bit : (s : ℕ) → 1 ≤ s → s ≤ 64 → times_met start s ≡ 1 - bit_at (2 ^ k - 1) (s - 1)
  start_bit s h l =
      bit_at_not w64 ((2 ^ 64 - 1) / 2 ^ (64 - k)) (s - 1) (omega (arith, div-le_self (2 ^ 64 - 1) (2 ^ (64 - k)))) (omega arith)
      ∙ ap (λ (x : ℕ). 1 - bit_at x (s - 1)) (shifted k few)

  pub table_none : Table k start (λ s. 0)
  table_none =
      record {
        few = few;
        times = λ s h l. omega (arith, start_bit s h (omega arith), bit_at_ones k (s - 1) (omega arith));
        above = λ s h l. omega (arith, start_bit s (omega arith) l, bit_at_ones_above k (s - 1) (omega arith));
      }

-- A slot's bit set: it has been met once more, and the others as often as before.
pub bit_noted : (slot met : ℕ) → 1 ≤ slot → slot ≤ 64 → times_met met slot ≡ 0 → (s : ℕ) → 1 ≤ s
    → times_met (bit_or met (1 * 2 ^ (slot - 1) % 2 ^ 64)) s ≡ times_met met s + one_if (eqb slot s)
bit_noted slot met low high new s h =
    by_eq slot s
    (λ e.
    ap (λ (x : ℕ). times_met (bit_or met (1 * 2 ^ (slot - 1) % 2 ^ 64)) x) (sym e) ∙ bit_at_set_same w64 met (slot - 1) (omega arith)
    ∙ omega (arith, new, ap (times_met met) e, ap one_if (eq-eqb slot s e)))
    (λ e. bit_at_set_other w64 met (slot - 1) (omega arith) (s - 1) (λ z. e (omega (arith, z))) ∙ omega (arith, ap one_if (ne_eqb slot s e)))

-- What shows whether it had been met: the bits are as before, or not.
bit_old : (slot met : ℕ) → 1 ≤ slot → slot ≤ 64 → times_met met slot ≡ 1 → bit_or met (1 * 2 ^ (slot - 1) % 2 ^ 64) ≡ met
bit_old slot met low high e =
    same_from_bits _ met (λ i.
    by_eq i (slot - 1)
    (λ z.
    ap (bit_at (bit_or met (1 * 2 ^ (slot - 1) % 2 ^ 64))) z ∙ bit_at_set_same w64 met (slot - 1) (omega arith) ∙ sym e ∙ ap (bit_at met) (sym z))
    (λ z. bit_at_set_other w64 met (slot - 1) (omega arith) i z))

note_first : (slot met : ℕ) → 1 ≤ slot → slot ≤ 64 → bit_or met (1 * 2 ^ (slot - 1) % 2 ^ 64) ≢ met
    → Noted slot met true (bit_or met (1 * 2 ^ (slot - 1) % 2 ^ 64))
note_first slot met low high n =
    let new : times_met met slot ≡ 0 = by_eq (times_met met slot) 1 (λ e. absurd (n (bit_old slot met low high e))) (λ e. omega (arith, e, bit_at-lt met (slot - 1))) in
    record {
      new =
          sym (and_i (leb 1 slot && leb slot 64) _ (and_i (leb 1 slot) _ (le-leb 1 slot low) (le-leb slot 64 high)) (eq-eqb (times_met met slot) 0 new));
      noted = λ z. bit_noted slot met low high new;
    }

note_again : (slot met : ℕ) → 1 ≤ slot → slot ≤ 64 → bit_or met (1 * 2 ^ (slot - 1) % 2 ^ 64) ≡ met → Noted slot met false met
note_again slot met low high e =
    let one : times_met met slot ≡ 1 = ap (λ (x : ℕ). times_met x slot) (sym e) ∙ bit_at_set_same w64 met (slot - 1) (omega arith) in
    record {
      new = answer_no _ (λ z. absurd (omega (arith, one, eqb-true (times_met met slot) 0 (and_r (leb 1 slot && leb slot 64) _ z))));
      noted = λ z. clash false z refl;
    }

-- The bit's number as it is computed: 0 goes round to 255.
module _ (slot met : ℕ) (byte : slot < 256) (h : (slot + 255) % 256 < 64) where
  abbrev at : ℕ
  at = (slot + 255) % 256

  abbrev noted_bits : ℕ → ℕ
  noted_bits x = bit_or met (1 * 2 ^ x % 2 ^ 64)

  at_is : slot - 1 ≡ at
  at_is = omega (arith, h)

  is_low : 1 ≤ slot
  is_low = omega (arith, h)

  pub note_new : noted_bits at ≢ met → Noted slot met true (noted_bits at)
  note_new = subst (λ (x : ℕ). noted_bits x ≢ met → Noted slot met true (noted_bits x)) at_is (note_first slot met is_low (omega (arith, at_is, h)))

  pub note_twice : noted_bits at ≡ met → Noted slot met false met
  note_twice = subst (λ (x : ℕ). noted_bits x ≡ met → Noted slot met false met) at_is (note_again slot met is_low (omega (arith, at_is, h)))

-- Each slot has been met where all 64 bits are set.
pub met_all : (met : ℕ) → met < 2 ^ 64 → AllMet met (eqb met (2 ^ 64 - 1))
met_all met h =
    record {
      each = λ e s low high. ap (λ (x : ℕ). bit_at x (s - 1)) (eqb-true met (2 ^ 64 - 1) e) ∙ bit_at_ones 64 (s - 1) (omega arith);
      heeds = λ f. eq-eqb met (2 ^ 64 - 1) (same_from_bits_below 64 met (2 ^ 64 - 1) h (omega arith) (λ i z.
          ap (bit_at met) (omega arith) ∙ f (suc i) (omega arith) (omega arith) ∙ sym (bit_at_ones 64 i z)));
    }

-- A slot that is answered b, where the slots have been met as often as f says.
module _ {k slot met : ℕ} {b : Bool} {met' : ℕ} {f : ℕ → ℕ} (n : Noted slot met b met') (t : Table k met f) where
  -- It is noted.
  module _ (e : b ≡ true) where
    passed : (leb 1 slot && leb slot 64 && eqb (times_met met slot) 0) ≡ true
    passed = sym n.new ∙ e

    not_none : 1 ≤ slot
    not_none = leb-true 1 slot (and_l (leb 1 slot) _ (and_l (leb 1 slot && leb slot 64) _ passed))

    is_high : slot ≤ 64
    is_high = leb-true slot 64 (and_r (leb 1 slot) _ (and_l (leb 1 slot && leb slot 64) _ passed))

    is_new : times_met met slot ≡ 0
    is_new = eqb-true (times_met met slot) 0 (and_r (leb 1 slot && leb slot 64) _ passed)

    is_slot : IsSlot k slot
    is_slot = (not_none, by_lt k slot (λ z. absurd (omega (arith, t.above slot z is_high, is_new))) (λ z. omega arith))

    noted_in : Table k met' (λ s. one_if (eqb slot s) + f s)
    noted_in =
        record {
          few = t.few;
          times = λ s h l. omega (arith, n.noted e s h, t.times s h l);
          above = λ s h l. omega (arith, n.noted e s (omega arith), t.above s h l, ap one_if (ne_eqb slot s (λ z. omega (arith, is_slot.1))));
        }

  -- It must be: it is a slot that has not been met.
  must_note : IsSlot k slot → f slot ≡ 0 → b ≡ true
  must_note i z =
      n.new
      ∙ and_i (leb 1 slot && leb slot 64) _ (and_i (leb 1 slot) _ (le-leb 1 slot i.0) (le-leb slot 64 (omega (arith, i.1, t.few))))
      (eq-eqb (times_met met slot) 0 (t.times slot i.0 i.1 ∙ z))

-- No slot is met twice.
once_in : {k met : ℕ} {f : ℕ → ℕ} → Table k met f → (s : ℕ) → 1 ≤ s → s ≤ k → f s ≤ 1
once_in {met = met} t s h l = omega (arith, t.times s h l, bit_at-lt met (s - 1))

-- The same table, for equal numbers.
table_to : {k met : ℕ} {f f' : ℕ → ℕ} → ((s : ℕ) → f' s ≡ f s) → Table k met f → Table k met f'
table_to e t = record { few = t.few; times = λ s h l. t.times s h l ∙ sym (e s); above = t.above }

-- After j places of the row, where each slot had been met as often as f says.
pub record RowPassed (k : ℕ) (f : ℕ → ℕ) (row : List ℕ) (j met : ℕ) : Type 0 where
  pub slots : (x : ℕ) → x < j → IsSlot k (get_or row x 0)
  pub table : Table k met (λ s. times s (take j row) + f s)

pub row_start : {k met : ℕ} {f : ℕ → ℕ} {row : List ℕ} → Table k met f → RowPassed k f row 0 met
unfolding count
row_start t = record { slots = λ x h. absurd (omega arith); table = table_to (λ s. omega arith) t }

module _ {k : ℕ} {f : ℕ → ℕ} {row : List ℕ} {j met : ℕ} (p : RowPassed k f row j met) where
  module _ {b : Bool} {met' : ℕ} (h : j < length row) (n : Noted (get_or row j 0) met b met') where
    one_more : (s : ℕ) → times s (take (j + 1) row) ≡ times s (take j row) + one_if (eqb (get_or row j 0) s)
    one_more s = count_next (λ x. eqb x s) row 0 j h

    pub row_next : b ≡ true → RowPassed k f row (j + 1) met'
    row_next e =
        record {
          slots = λ x z. by_eq x j (λ y. subst (λ (u : ℕ). IsSlot k (get_or row u 0)) (sym y) (is_slot n p.table e)) (λ y. p.slots x (omega arith));
          table = table_to (λ s. omega (arith, one_more s)) (noted_in n p.table e);
        }

    pub row_fails : {m : ℕ} → b ≡ false → RowNoted k f row false m
    row_fails e =
        record {
          right = λ z. clash false z refl;
          heeds = λ r.
              let s : IsSlot k (get_or row j 0) = r.slots j h in
              sym e
              ∙ must_note n p.table s
              (omega (
                arith,
                count_take_le (λ x. eqb x (get_or row j 0)) row (j + 1),
                one_more (get_or row j 0),
                ap one_if (eq-eqb (get_or row j 0) (get_or row j 0) refl),
                r.once (get_or row j 0) s.0 s.1,
              ));
        }

  pub row_done : length row ≤ j → RowNoted k f row true met
  row_done h =
      let t : Table k met (λ s. times s row + f s) = table_to (λ s. ap (λ (x : List ℕ). times s x + f s) (sym (take_all j row h))) p.table in
      record { right = λ z. (record { slots = λ x y. p.slots x (omega arith); once = once_in t }, t); heeds = λ r. refl }

-- After i records, before which each slot had been met as often as f says: each has its slot or none, and those of the plugins inside have been met.
pub record SlotsPassed (k : ℕ) (f : ℕ → ℕ) (l : List Record) (i met : ℕ) : Type 0 where
  pub own_slots : Each (SlotInRange k) (take i l)
  pub table : Table k met (λ s. count (inside_with s) (take i l) + f s)

no_record : {k : ℕ} {f : ℕ → ℕ} (l : List Record) {met : ℕ} → Table k met f → SlotsPassed k f l 0 met
unfolding count
no_record l t = record { own_slots = λ j z. absurd (omega arith); table = table_to (λ s. omega arith) t }

-- The same for equal bits.
pub slots_to : {k : ℕ} {f : ℕ → ℕ} {l : List Record} {i met met' : ℕ} → met' ≡ met → SlotsPassed k f l i met → SlotsPassed k f l i met'
slots_to {k} {f} {l} {i} e p = subst (SlotsPassed k f l i) (sym e) p

-- A turn: the slot of the record i, u, is answered b.
module _ {k : ℕ} {f : ℕ → ℕ} {l : List Record} {i met : ℕ} {u : Record} {b : Bool} {met' : ℕ} (p : SlotsPassed k f l i met) (h : i < length l)
    (eu : u ≡ get_or l i idle_record) (n : NotedOf u.region u.slot.0 met b met') where
  abbrev r : Record
  r = get_or l i idle_record

  abbrev slot : ℕ
  slot = r.slot.0

  a : NotedOf r.region slot met b met'
  a = subst (λ (x : Record). NotedOf x.region x.slot.0 met b met') eu n

  more : (t : Record → Bool) → count t (take (i + 1) l) ≡ count t (take i l) + one_if (t r)
  more t = count_next t l idle_record i h

  pub slots_next : b ≡ true → SlotsPassed k f l (i + 1) met'
  slots_next e =
      by_eq r.region 2
      (λ z.
      let y : inside r ≡ true = eq-eqb r.region 2 z in
      let t = a.inside z in
      record {
        own_slots = each_next (SlotInRange k) l idle_record i h p.own_slots (record { inside_slot = λ v. is_slot t p.table e; outside_slot = λ v. clash _ y v });
        table = table_to (λ s. omega (arith, more (inside_with s), ap (λ (v : Bool). one_if (v && eqb slot s)) y)) (noted_in t p.table e);
      })
      (λ z.
      let y : inside r ≡ false = ne_eqb r.region 2 z in
      let t = a.outside z in
      record {
        own_slots = each_next (SlotInRange k) l idle_record i h p.own_slots (record { inside_slot = λ v. clash _ v y; outside_slot = λ v. eqb-true slot 0 (sym t.0 ∙ e) });
        table = subst (λ (m : ℕ). Table k m (λ s. count (inside_with s) (take (i + 1) l) + f s)) (sym t.1)
            (table_to (λ s. omega (arith, more (inside_with s), ap (λ (v : Bool). one_if (v && eqb slot s)) y)) p.table);
      })

  -- Where the slots are right, and before the records no slot had been met but in the row, so is this one.
  must_pass : {g : Gate} {row : List ℕ} → g.k ≡ k → ((s : ℕ) → f s ≤ times s row) → HasSlots g l row → b ≡ true
  must_pass {g} ek few c =
      let q : SlotInRange k r = subst (λ (m : ℕ). SlotInRange m r) ek (c.own_slots i h) in
      by_eq r.region 2
      (λ z.
      let y : inside r ≡ true = eq-eqb r.region 2 z in
      let s = q.inside_slot y in
      must_note (a.inside z) p.table s
      (omega (
        arith,
        c.once slot s.0 (omega (arith, s.1, ek)),
        few slot,
        count_take_le (inside_with slot) l (i + 1),
        more (inside_with slot),
        ap one_if (and_i (inside r) _ y (eq-eqb slot slot refl)),
      )))
      (λ z. (a.outside z).0 ∙ eq-eqb slot 0 (q.outside_slot (ne_eqb r.region 2 z)))

-- The slots of a sound gate, and of its row: the first places of the free row that are not 0.
module _ (g : Gate) (long : length g.free ≡ 64) (l : List Record) where
  slots_of : sound g l ≡ true → HasSlots g l (take (used g.free) g.free)
  slots_of s =
      let h = slots_use g l long (and_r (sound_in (block_of g) g l) _ s) in
      subst (HasSlots g l) (sym (row_is g.free (free_slots g.free) h.free_is (λ j z. (h.row_slots j z).0))) h

-- The row, the first n places of the free row, which are those that are not 0; its first a places are noted before the list, and the others after it.
module _ (g : Gate) (long : length g.free ≡ 64) {n : ℕ} (en : n ≡ used g.free) where
  -- There are no more than 64.
  pub used_few : n ≤ 64
  used_few = omega (arith, en, count_le (λ x. not (eqb x 0)) g.free, long)

module _ (g : Gate) (long : length g.free ≡ 64) {n : ℕ} (en : n ≡ used g.free) {a : ℕ} (within : a ≤ length (take n g.free)) (l : List Record) where
  abbrev row : List ℕ
  row = take n g.free

  abbrev early : List ℕ
  early = take a row

  abbrev late : List ℕ
  late = drop a row

  early_long : length early ≡ a
  early_long = length-take-le a row within

  in_parts : (s : ℕ) → times s row ≡ times s early + times s late
  in_parts s = ap (times s) (sym (take-append-drop a row)) ∙ count_append (λ x. eqb x s) early late

  has_slots : sound g l ≡ true → HasSlots g l row
  has_slots s = subst (λ (m : ℕ). HasSlots g l (take m g.free)) (sym en) (slots_of g long l s)

  module _ {k met : ℕ} (ek : k ≡ g.k) {b : Bool} {met₁ : ℕ} (before : Table k met (λ s. 0))
      (noted : (k : ℕ) → (f : ℕ → ℕ) → Table k met f → RowNoted k f early b met₁) where
    early_noted : RowNoted k (λ s. 0) early b met₁
    early_noted = noted k (λ s. 0) before

    must_early : HasSlots g l row → RowRight k (λ s. 0) early
    must_early c =
        subst (λ (m : ℕ). RowRight m (λ s. 0) early) (sym ek)
        (record {
          slots = λ j z.
              let y : j < a = omega (arith, z, early_long) in
              subst (IsSlot g.k) (sym (get_or-take a row j 0 y)) (c.row_slots j (omega (arith, y, within)));
          once = λ s z y. omega (arith, c.once s z y, in_parts s);
        })

    -- A first part that is answered no.
    pub unsound_early : b ≡ false → false ≡ sound g l
    unsound_early f = answer_no _ (λ s. clash b (early_noted.heeds (must_early (has_slots s))) f)

    module _ (e : b ≡ true) where
      pub slots_start : SlotsPassed k (λ s. times s early) l 0 met₁
      slots_start = no_record l (table_to (λ s. omega arith) (early_noted.right e).1)

      -- A slot of a record that is answered no.
      pub unsound_slot : {i met₂ : ℕ} → SlotsPassed k (λ s. times s early) l i met₂ → {u : Record} {b : Bool} {met' : ℕ} → i < length l → u ≡ get_or l i idle_record
          → NotedOf u.region u.slot.0 met₂ b met' → b ≡ false → false ≡ sound g l
      unsound_slot p {b = b} h eu y f = answer_no _ (λ s. clash b (must_pass p h eu y (sym ek) (λ s. omega (arith, in_parts s)) (has_slots s)) f)

      -- The rest of the row, as the code takes it, after the last record.
      module _ {i met₂ : ℕ} (p : SlotsPassed k (λ s. times s early) l i met₂) (h : length l ≤ i) {b₂ : Bool} {met₃ : ℕ}
          (rest : (k : ℕ) → (f : ℕ → ℕ) → Table k met₂ f → RowNoted k f (take (length row - a) late) b₂ met₃) where
        abbrev insides : ℕ → ℕ
        insides s = count (inside_with s) l

        is_whole : take i l ≡ l
        is_whole = take_all i l h

        late_noted : RowNoted k (λ s. insides s + times s early) late b₂ met₃
        late_noted =
            subst (λ (x : List ℕ). RowNoted k (λ s. insides s + times s early) x b₂ met₃) (take_all (length row - a) late (omega (arith, length-drop a row)))
            (rest k (λ s. insides s + times s early) (table_to (λ s. ap (λ (x : List Record). count (inside_with s) x + times s early) (sym is_whole)) p.table))

        must_late : HasSlots g l row → RowRight k (λ s. insides s + times s early) late
        must_late c =
            subst (λ (m : ℕ). RowRight m (λ s. insides s + times s early) late) (sym ek)
            (record {
              slots = λ j z. subst (IsSlot g.k) (sym (get_or-drop a row j 0)) (c.row_slots (a + j) (omega (arith, z, length-drop a row)));
              once = λ s z y. omega (arith, c.once s z y, in_parts s);
            })

        pub unsound_late : b₂ ≡ false → false ≡ sound g l
        unsound_late f = answer_no _ (λ s. clash b₂ (late_noted.heeds (must_late (has_slots s))) f)

        module _ (e₂ : b₂ ≡ true) {x : Bool} (m : AllMet met₃ x) where
          t : Table k met₃ (λ s. times s row + insides s)
          t = table_to (λ s. omega (arith, in_parts s)) (late_noted.right e₂).1

          -- Each slot is met where the slots are sound.
          must_meet : HasSlots g l row → (s : ℕ) → 1 ≤ s → s ≤ 64 → times_met met₃ s ≡ 1
          must_meet c s low high =
              by_lt k s
              (λ z. t.above s z high)
              (λ z. let y : s ≤ k = omega arith in t.times s low y ∙ c.once s low (omega (arith, y, ek)))

          pub unsound_unmet : x ≡ false → false ≡ sound g l
          unsound_unmet f = answer_no _ (λ s. clash x (m.heeds (must_meet (has_slots s))) f)

          -- The row has slots of the gate: each place is one of its first part or of the rest.
          row_slots : EachSlot (IsSlot g.k) row
          row_slots j z =
              by_lt j a
              (λ y.
              let w : j < length early = omega (arith, early_long, y) in
              subst (IsSlot g.k) (get_or-take a row j 0 y) (subst (λ (m : ℕ). IsSlot m (get_or early j 0)) ek ((early_noted.right e).0.slots j w)))
              (λ y.
              let w : j - a < length late = omega (arith, length-drop a row, z, y) in
              let q : get_or late (j - a) 0 ≡ get_or row j 0 = get_or-drop a row (j - a) 0 ∙ ap (λ (x : ℕ). get_or row x 0) (omega (arith, y)) in
              subst (IsSlot g.k) q (subst (λ (m : ℕ). IsSlot m (get_or late (j - a) 0)) ek ((late_noted.right e₂).0.slots (j - a) w)))

          -- Each slot was met, and none twice.
          pub slots_right : x ≡ true → slots_sound g l ≡ true
          slots_right ex =
              let own : Each (SlotInRange g.k) l = subst (λ (m : ℕ). Each (SlotInRange m) l) ek (subst (Each (SlotInRange k)) is_whole p.own_slots) in
              slots_i g l row
              (record {
                free_is = subst (λ (m : ℕ). g.free ≡ free_row (take m g.free)) (sym en) (is_row g.free long (subst (λ (m : ℕ). EachSlot (λ s. 1 ≤ s) (take m g.free)) en (λ j z. (row_slots j z).0)));
                row_slots = row_slots;
                own_slots = own;
                once = λ s low high.
                    let y : s ≤ k = omega (arith, high, ek) in
                    sym (t.times s low y) ∙ m.each ex s low (omega (arith, y, t.few));
              })
