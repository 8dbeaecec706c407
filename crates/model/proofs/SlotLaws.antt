-- What the test `slots_sound g l` decides, as facts: the free row, and each slot free once or with one plugin inside.
--
-- Main statements: `HasSlots` (with the row of free slots as an argument), `slots_use`, `slots_i`; `row_and_inside`, `slots_total` (the
-- row's length + the number inside = k), `one_owner` (no two plugins inside have one slot), `once_by_total` (no slot met twice, and k met: each is met once).
use Prim.Native.Nat.{suc, zero, ℕ, ◌+◌, ◌-◌, ◌<◌, ◌≤◌}
use mathlib.Core.Path.{ap, ap₂, refl, sym, ◌∙◌, ◌≡◌}
use mathlib.Core.Bool.{false, true, ◌&&◌}
use mathlib.Core.List.{List, [], append_assoc, map, ◌++◌, ◌∷◌}
use native.Mathlib.Nat.{not-suc-le-zero}
use native.Mathlib.Numerals.{add-one}
use native.Mathlib.Omega.{arith}
use lib.ListN.{drop, get_or, get_or-replicate, length, length-append, length-drop, length-replicate, replicate, set, take}
use lib.Seq.{append_snoc, drop-cons, set-append_seam, take_all}
use lib.Dec.{eqb, leb}
use borrow.Author.Tests.{eq-eqb, eqb-true, le-leb, leb-true, ne_eqb}
use Rattle.std.proofs.lemmas.List.{replicate-append-replicate}
use Rattle.model.specs.declared.Gate.{Gate}
use Rattle.model.specs.declared.Record.{Record}
use Rattle.model.specs.Calls.{free_row, free_slots, idle_record, moved_up}
use Rattle.model.specs.Lists.{all, all_below, count, numbers_from}
use Rattle.model.specs.Sound.{free_in_order, inside, inside_with, slot_in_range, slot_once, slots_sound}
use Rattle.model.proofs.Counting.{all_at, all_i, below_at, below_i, count_append, count_none, ones_sum, sum_add, sum_below, sum_count, sum_first, sum_ones}
use Rattle.model.proofs.IsSound.{Each}
use Rattle.model.proofs.Logic.{and_i, and_l, and_r, by_bool, by_eq}
use Rattle.model.proofs.Relation.{times}
use Rattle.model.proofs.Rows.{count_two, each_cons}
use Rattle.model.proofs.SoundLaws.{count_true}

-- A fact of each slot of a row.
abbrev pub EachSlot : (ℕ → Type 0) → List ℕ → Type 0
EachSlot P row = (j : ℕ) → j < length row → P (get_or row j 0)

abbrev pub IsSlot : ℕ → ℕ → Type 0
IsSlot k s = (1 ≤ s) × (s ≤ k)

-- The slot of one record.
pub record SlotInRange (k : ℕ) (r : Record) : Type 0 where
  pub inside_slot : inside r ≡ true → IsSlot k r.slot.0
  pub outside_slot : inside r ≡ false → r.slot.0 ≡ 0

-- The slots of a gate and list, with the row of the free ones.
pub record HasSlots (g : Gate) (l : List Record) (row : List ℕ) : Type 0 where
  pub free_is : g.free ≡ free_row row
  pub row_slots : EachSlot (IsSlot g.k) row
  pub own_slots : Each (SlotInRange g.k) l
  pub once : (s : ℕ) → 1 ≤ s → s ≤ g.k → times s row + count (inside_with s) l ≡ 1

slot_use : (k : ℕ) (r : Record) → slot_in_range k r ≡ true → SlotInRange k r
unfolding slot_in_range
slot_use k r e = record {
  inside_slot = λ i. let z : (leb 1 r.slot.0 && leb r.slot.0 k) ≡ true = simp i at e in (leb-true _ _ (and_l _ _ z), leb-true _ _ (and_r (leb 1 r.slot.0) _ z));
  outside_slot = λ i. let z : eqb r.slot.0 0 ≡ true = simp i at e in eqb-true _ _ z;
}

slot_i : (k : ℕ) (r : Record) → SlotInRange k r → slot_in_range k r ≡ true
unfolding slot_in_range
slot_i k r s =
    by_bool (inside r)
    (λ e. simp e (and_i _ _ (le-leb _ _ (s.inside_slot e).0) (le-leb _ _ (s.inside_slot e).1)))
    (λ e. simp e (eq-eqb _ _ (s.outside_slot e)))

-- Rows and the zeros after them.
zeros_all : (m : ℕ) → all (λ x. eqb x 0) (replicate m 0) ≡ true
unfolding all
zeros_all zero = refl
zeros_all (suc m) = zeros_all m

all_zeros : (free : List ℕ) → all (λ x. eqb x 0) free ≡ true → free ≡ replicate (length free) 0
unfolding all
all_zeros [] e = refl
all_zeros (x ∷ free) e = ap₂ (λ (a : ℕ) (t : List ℕ). a ∷ t) (eqb-true x 0 (and_l _ _ e)) (all_zeros free (and_r (eqb x 0) _ e))

order_i : (k : ℕ) (row : List ℕ) (m : ℕ) → EachSlot (IsSlot k) row → free_in_order k (row ++ replicate m 0) ≡ true
unfolding free_in_order
order_i k [] zero h = refl
order_i k [] (suc m) h = zeros_all m
order_i k (x ∷ row) m h =
    simp (ne_eqb x 0 (λ e. omega (arith, (h 0 (omega arith)).0)))
    (and_i _ _ (le-leb _ _ (h 0 (omega arith)).1) (order_i k row m (λ j b. h (suc j) (omega arith))))

-- The front of a row with its zeros is the row.
pub front_is : (row : List ℕ) (m : ℕ) → EachSlot (λ s. 1 ≤ s) row → free_slots (row ++ replicate m 0) ≡ row
unfolding free_slots
front_is [] zero h = refl
front_is [] (suc m) h = refl
front_is (x ∷ row) m h = rw (ne_eqb x 0 (λ e. omega (arith, h 0 (omega arith)))) (ap (λ (t : List ℕ). x ∷ t) (front_is row m (λ j b. h (suc j) (omega arith))))

record Ordered (k : ℕ) (free row : List ℕ) : Type 0 where
  short : length row ≤ length free
  rest : free ≡ row ++ replicate (length free - length row) 0
  slots : EachSlot (IsSlot k) row

order_use : (k : ℕ) (free : List ℕ) → free_in_order k free ≡ true → Ordered k free (free_slots free)
unfolding free_in_order free_slots
order_use k [] e = record { short = omega arith; rest = refl; slots = λ j h. absurd (not-suc-le-zero h) }
order_use k (x ∷ free) e =
    by_eq x 0
    (λ z.
    let a : all (λ y. eqb y 0) free ≡ true = simp (eq-eqb x 0 z) at e in
    let n0 : suc (length free) ≡ suc (length free) - 0 = omega arith in
    rw (eq-eqb x 0 z) (record {
      short = omega arith;
      rest = ap₂ (λ (b : ℕ) (t : List ℕ). b ∷ t) z (all_zeros free a) ∙ ap (λ (n : ℕ). replicate n 0) n0;
      slots = λ j h. absurd (not-suc-le-zero h);
    }))
    (λ z.
    let a : (leb x k && free_in_order k free) ≡ true = simp (ne_eqb x 0 z) at e in
    let ih = order_use k free (and_r (leb x k) _ a) in
    let m : length free - length (free_slots free) ≡ suc (length free) - suc (length (free_slots free)) = omega arith in
    rw (ne_eqb x 0 z) (record {
      short = omega (arith, ih.short);
      rest = ap (λ (t : List ℕ). x ∷ t) (ih.rest ∙ ap (λ (n : ℕ). free_slots free ++ replicate n 0) m);
      slots = each_cons (IsSlot k) x (free_slots free) (omega arith, leb-true _ _ (and_l _ _ a)) ih.slots;
    }))

-- A slot is in the 64 places as often as in the row.
times_free : (s : ℕ) (row : List ℕ) (m : ℕ) → 1 ≤ s → count (λ x. eqb x s) (row ++ replicate m 0) ≡ times s row
times_free s row m h =
    omega (
      arith,
      count_append (λ x. eqb x s) row (replicate m 0),
      count_none (λ x. eqb x s) (replicate m 0) 0
          (λ i b. ne_eqb (get_or (replicate {A = ℕ} m 0) i 0) s (λ e. omega (arith, get_or-replicate {A = ℕ} m i 0 0 (omega (arith, length-replicate {A = ℕ} m 0))))),
    )

module _ (g : Gate) (l : List Record) where
  abbrev Parts : Type 0
  Parts = (free_in_order g.k g.free ≡ true) × (all (slot_in_range g.k) l ≡ true) × (all_below (λ i. slot_once g l (suc i)) g.k ≡ true)

  parts : slots_sound g l ≡ true → Parts
  unfolding slots_sound
  parts e = search (and_l, and_r) depth 6

  parts_i : Parts → slots_sound g l ≡ true
  unfolding slots_sound
  parts_i p = search and_i depth 6

  once_use : (s : ℕ) → slot_once g l s ≡ true → count (λ x. eqb x s) g.free + count (inside_with s) l ≡ 1
  unfolding slot_once
  once_use s e = eqb-true _ _ e

  once_i : (s : ℕ) → count (λ x. eqb x s) g.free + count (inside_with s) l ≡ 1 → slot_once g l s ≡ true
  unfolding slot_once
  once_i s e = eq-eqb _ _ e

  -- The row of a gate with sound slots, whatever the length of its free places.
  row_of : slots_sound g l ≡ true → Ordered g.k g.free (free_slots g.free)
  row_of e = order_use g.k g.free (parts e).0

  pub own_of : slots_sound g l ≡ true → Each (SlotInRange g.k) l
  own_of e i h = slot_use g.k _ (all_at _ l idle_record (parts e).1 i h)

  once_of : slots_sound g l ≡ true → (s : ℕ) → 1 ≤ s → s ≤ g.k → times s (free_slots g.free) + count (inside_with s) l ≡ 1
  once_of e s a b =
      let i : suc (s - 1) ≡ s = omega arith in
      let q : slot_once g l (suc (s - 1)) ≡ true = below_at (λ i. slot_once g l (suc i)) g.k (parts e).2 (s - 1) (omega arith) in
      omega (
        arith,
        once_use s (ap (slot_once g l) (sym i) ∙ q),
        ap (count (λ x. eqb x s)) (row_of e).rest,
        times_free s (free_slots g.free) (length g.free - length (free_slots g.free)) a,
      )

  pub slots_use : length g.free ≡ 64 → slots_sound g l ≡ true → HasSlots g l (free_slots g.free)
  slots_use n e =
      record {
        free_is = (row_of e).rest ∙ ap (λ (m : ℕ). free_slots g.free ++ replicate (m - length (free_slots g.free)) 0) n;
        row_slots = (row_of e).slots;
        own_slots = own_of e;
        once = once_of e;
      }

  pub slots_i : (row : List ℕ) → HasSlots g l row → slots_sound g l ≡ true
  slots_i row h =
      parts_i (
        ap (free_in_order g.k) h.free_is ∙ order_i g.k row (64 - length row) h.row_slots,
        all_i _ l idle_record (λ i b. slot_i g.k _ (h.own_slots i b)),
        below_i (λ i. slot_once g l (suc i)) g.k (λ i b. once_i (suc i) (omega (
          arith,
          h.once (suc i) (omega arith) (omega arith),
          ap (count (λ x. eqb x (suc i))) h.free_is,
          times_free (suc i) row (64 - length row) (omega arith),
        ))),
      )

-- 0 and then k times 1.
ones_after : (f : ℕ → ℕ) (k : ℕ) → f 0 ≡ 0 → ((s : ℕ) → 1 ≤ s → s ≤ k → f s ≡ 1) → sum_below f (suc k) ≡ k
ones_after f k z h = omega (arith, sum_first f k, ones_sum (λ j. f (suc j)) k (λ j l. h (suc j) (omega arith) (omega arith)))

-- No slot is 0, and the slots met are the row's length and the number inside.
no_zero : (k : ℕ) (row : List ℕ) → EachSlot (IsSlot k) row → times 0 row ≡ 0
no_zero k row h = count_none (λ x. eqb x 0) row 0 (λ j b. ne_eqb (get_or row j 0) 0 (λ e. omega (arith, (h j b).0)))

none_with_0 : (k : ℕ) (l : List Record) → Each (SlotInRange k) l → count (inside_with 0) l ≡ 0
none_with_0 k l h =
    count_none (inside_with 0) l idle_record (λ i b.
    let r = get_or l i idle_record in
    by_bool (inside r)
    (λ e. rw e (ne_eqb r.slot.0 0 (λ z. omega (arith, ((h i b).inside_slot e).0))))
    (λ e. rw e refl))

slots_sum : (k : ℕ) (l : List Record) (row : List ℕ) → EachSlot (IsSlot k) row → Each (SlotInRange k) l
    → sum_below (λ s. times s row + count (inside_with s) l) (suc k) ≡ length row + count inside l
slots_sum k l row r o =
    omega (
      arith,
      sum_add (λ s. times s row) (λ s. count (inside_with s) l) (suc k),
      sum_count (λ x. true) (λ x. x) row 0 (suc k) (λ j b e. omega (arith, (r j b).1)),
      count_true row,
      sum_count inside (λ x. x.slot.0) l idle_record (suc k) (λ i b e. omega (arith, ((o i b).inside_slot e).1)),
    )

-- The row's length and the number inside add up to k: as the test says it, whatever the length of the free places.
pub slots_total : (g : Gate) (l : List Record) → slots_sound g l ≡ true → length (free_slots g.free) + count inside l ≡ g.k
slots_total g l e =
    let row = free_slots g.free in
    omega (
      arith,
      ones_after (λ s. times s row + count (inside_with s) l) g.k (omega (arith, no_zero g.k row (row_of g l e).slots, none_with_0 g.k l (own_of g l e))) (once_of g l e),
      slots_sum g.k l row (row_of g l e).slots (own_of g l e),
    )

module _ (g : Gate) (l : List Record) (row : List ℕ) (h : HasSlots g l row) where
  -- The row's length and the number inside add up to k.
  pub row_and_inside : length row + count inside l ≡ g.k
  row_and_inside =
      omega (
        arith,
        ones_after (λ s. times s row + count (inside_with s) l) g.k (omega (arith, no_zero g.k row h.row_slots, none_with_0 g.k l h.own_slots)) h.once,
        slots_sum g.k l row h.row_slots h.own_slots,
      )

  -- No two plugins inside have one slot.
  pub one_owner : (i j : ℕ) → i < length l → j < length l → inside (get_or l i idle_record) ≡ true → inside (get_or l j idle_record) ≡ true
      → (get_or l i idle_record).slot.0 ≡ (get_or l j idle_record).slot.0 → i ≡ j
  one_owner i j a b e f s =
      by_eq i j
      (λ z. z)
      (λ z.
      let x = (get_or l i idle_record).slot.0 in
      let r = (h.own_slots i a).inside_slot e in
      absurd (omega (
        arith,
        h.once x r.0 r.1,
        count_two (inside_with x) l i j idle_record a b z (and_i (inside (get_or l i idle_record)) _ e (eq-eqb x x refl))
            (and_i (inside (get_or l j idle_record)) _ f (eq-eqb _ x (sym s))),
      )))

-- The other way round, for a test that goes through the row and the records once: no slot is met twice, and k are met.
all_ones : (f : ℕ → ℕ) (k : ℕ) → f 0 ≡ 0 → ((s : ℕ) → 1 ≤ s → s ≤ k → f s ≤ 1) → sum_below f (suc k) ≡ k → (s : ℕ) → 1 ≤ s → s ≤ k → f s ≡ 1
all_ones f k z h e zero a b = absurd (omega arith)
all_ones f k z h e (suc j) a b = sum_ones (λ i. f (suc i)) k (λ i l. h (suc i) (omega arith) (omega arith)) (omega (arith, sum_first f k)) j (omega arith)

pub once_by_total : (g : Gate) (l : List Record) (row : List ℕ) → EachSlot (IsSlot g.k) row → Each (SlotInRange g.k) l
    → ((s : ℕ) → 1 ≤ s → s ≤ g.k → times s row + count (inside_with s) l ≤ 1) → length row + count inside l ≡ g.k
    → (s : ℕ) → 1 ≤ s → s ≤ g.k → times s row + count (inside_with s) l ≡ 1
once_by_total g l row r o most total =
    all_ones (λ s. times s row + count (inside_with s) l) g.k (omega (arith, no_zero g.k row r, none_with_0 g.k l o)) most (omega (
      arith,
      slots_sum g.k l row r o,
    ))

-- The row moves up.
append_zeros : (row : List ℕ) (m : ℕ) → (row ++ replicate m 0) ++ (0 ∷ []) ≡ row ++ replicate (suc m) 0
append_zeros row m =
    append_assoc row (replicate m 0) (0 ∷ [])
    ∙ ap (λ (t : List ℕ). row ++ t) (replicate-append-replicate m 1 0 ∙ ap (λ (n : ℕ). replicate n 0) (add-one m))

-- The places from p on, as many as there are.
places_from : (free : List ℕ) (p n : ℕ) → p + n ≤ length free → map (λ i. get_or free i 0) (numbers_from p n) ≡ take n (drop p free)
unfolding numbers_from
places_from free p zero h = refl
places_from free p (suc n) h =
    ap (λ (t : List ℕ). get_or free p 0 ∷ t) (places_from free (suc p) n (omega arith)) ∙ ap (take (suc n)) (sym (drop-cons free p 0 (omega arith)))

pub up_drop : (free : List ℕ) → length free ≡ 64 → moved_up free ≡ drop 1 free ++ (0 ∷ [])
up_drop free n =
    ap (λ (t : List ℕ). t ++ (0 ∷ []))
    (places_from free 1 63 (omega arith) ∙ take_all 63 (drop 1 free) (omega (arith, length-drop 1 free)))

pub row_length : (row : List ℕ) → length row ≤ 64 → length (free_row row) ≡ 64
row_length row h = omega (arith, length-append row (replicate (64 - length row) 0), length-replicate {A = ℕ} (64 - length row) 0)

pub up_is : (x : ℕ) (row : List ℕ) → length (x ∷ row) ≤ 64 → moved_up (free_row (x ∷ row)) ≡ free_row row
up_is x row h =
    let e : suc (64 - suc (length row)) ≡ 64 - length row = omega arith in
    up_drop (free_row (x ∷ row)) (row_length (x ∷ row) h)
    ∙ append_zeros row (64 - suc (length row)) ∙ ap (λ (n : ℕ). row ++ replicate n 0) e

-- A slot comes back after the last.
pub back_is : (row : List ℕ) (s : ℕ) → length row < 64 → set (free_row row) (length row) s ≡ free_row (row ++ (s ∷ []))
back_is row s h =
    let e : 64 - length row ≡ suc (64 - length (row ++ (s ∷ []))) = omega (arith, length-append row (s ∷ [])) in
    ap (λ (n : ℕ). set (row ++ replicate n 0) (length row) s) e
    ∙ set-append_seam row 0 (replicate (64 - length (row ++ (s ∷ []))) 0) s
    ∙ sym (append_snoc row s (replicate (64 - length (row ++ (s ∷ []))) 0))
