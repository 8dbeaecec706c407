-- Held tickets are distinct where each is held by none after the record that holds it.
use Prim.Native.Nat.{zero-le, ℕ, zero, suc, ◌+◌, ◌-◌, ◌<◌, ◌≤◌}
use mathlib.Core.Path.{ap, refl, sym, ◌∙◌, ◌≡◌}
use mathlib.Core.Bool.{Bool, true}
use mathlib.Core.List.{List, [], ◌∷◌}
use mathlib.Core.Logic.{◌≢◌}
use native.Mathlib.Nat.{le_of_suc-le-suc, not-suc-le-zero}
use native.Mathlib.Omega.{arith}
use lib.ListN.{get_or, length}
use borrow.Author.Tests.{eqb-true, le-leb, leb-true}
use Rattle.std.specs.List.{list_all, range_with_len}
use Rattle.std.proofs.Math.ListN.{drop}
use Rattle.std.proofs.lemmas.List.{get_or-drop, length-drop}
use Rattle.model.specs.Lists.{count, one_if}
use Rattle.model.proofs.Counting.{all_at, all_i, count_find}
use Rattle.model.proofs.Logic.{and_i, and_l, and_r, bool_ext, by_bool, by_lt, implies_i, implies_use}
use Rattle.model.proofs.Rows.{count_two}
use Rattle.numbered.specs.declared.NumberedRecord.{NumberedRecord}
use Rattle.numbered.specs.Calls.{idle_numbered}
use Rattle.numbered.specs.Sound.{has_ticket, held_distinct, holds_number}
use Rattle.numbered_soundness.specs.Records.{held_last}

-- A test of the numbers from a on.
range_at : (f : ℕ → Bool) (n a : ℕ) → list_all f (range_with_len a n) ≡ true → (i : ℕ) → i < n → f (a + i) ≡ true
range_at f zero a e i h = absurd (not-suc-le-zero h)
range_at f (suc n) a e zero h = let q : a + 0 ≡ a = omega arith in ap f q ∙ and_l (f a) _ e
range_at f (suc n) a e (suc i) h =
    let q : a + suc i ≡ a + 1 + i = omega arith in ap f q ∙ range_at f n (a + 1) (and_r (f a) _ e) i (le_of_suc-le-suc h)

range_i : (f : ℕ → Bool) (n a : ℕ) → ((i : ℕ) → i < n → f (a + i) ≡ true) → list_all f (range_with_len a n) ≡ true
range_i f zero a h = refl
range_i f (suc n) a h =
    let q : a + 0 ≡ a = omega arith in
    and_i (f a) _ (ap f (sym q) ∙ h 0 (omega arith))
    (range_i f n (a + 1) (λ i k. let r : a + 1 + i ≡ a + suc i = omega arith in ap f r ∙ h (suc i) (omega arith)))

-- Of two elements that pass a test the earlier and the later.
record Two {A : Type 0} (p : A → Bool) (l : List A) (d : A) : Type 0 where
  first : ℕ
  last : ℕ
  in_order : first < last
  within : last < length l
  first_passes : p (get_or l first d) ≡ true
  last_passes : p (get_or l last d) ≡ true

two : {A : Type 0} (p : A → Bool) (l : List A) (d : A) → 2 ≤ count p l → Two p l d
unfolding count
two p [] d h = absurd (omega (arith, h))
two p (y ∷ l) d h =
    by_bool (p y)
    (λ e.
    let r = count_find p l d (omega (arith, h, ap one_if e)) in
    record { first = 0; last = suc r.0; in_order = omega arith; within = omega (arith, r.1); first_passes = e; last_passes = r.2 })
    (λ e.
    let r = two p l d (omega (arith, h, ap one_if e)) in
    record {
      first = suc r.first;
      last = suc r.last;
      in_order = omega (arith, r.in_order);
      within = omega (arith, r.within);
      first_passes = r.first_passes;
      last_passes = r.last_passes;
    })

-- From a place on no more pass than in all.
count_drop : {A : Type 0} (p : A → Bool) (l : List A) (i : ℕ) → count p (drop i l) ≤ count p l
unfolding count
count_drop p [] zero = zero-le
count_drop p [] (suc i) = zero-le
count_drop p (y ∷ l) zero = omega arith
count_drop p (y ∷ l) (suc i) = omega (arith, count_drop p l i)

module _ (l : List NumberedRecord) where
  abbrev at : ℕ → NumberedRecord
  at i = get_or l i idle_numbered

  -- A ticket that two hold is held twice from the earlier one on.
  once : ((i : ℕ) → i < length l → held_last l i ≡ true) → (t : ℕ) → count (holds_number t) l ≤ 1
  unfolding held_last
  once f t =
      by_lt 1 (count (holds_number t) l)
      (λ h.
      let w = two (holds_number t) l idle_numbered h in
      let x = at w.first in
      let q : t ≡ x.ticket = eqb-true _ _ (and_r (has_ticket x) _ w.first_passes) in
      let rest : List NumberedRecord = drop w.first l in
      let most : count (holds_number x.ticket) rest ≤ 1
      = leb-true _ _ (implies_use _ _ (f w.first (omega (arith, w.in_order, w.within))) (and_l (has_ticket x) _ w.first_passes)) in
      let long : length rest ≡ length l - w.first = length-drop w.first l in
      let i : ℕ = w.last - w.first in
      let here : holds_number t (get_or rest 0 idle_numbered) ≡ true
      = let e : w.first + 0 ≡ w.first = omega arith in ap (holds_number t) (get_or-drop w.first l 0 idle_numbered ∙ ap at e) ∙ w.first_passes in
      let there : holds_number t (get_or rest i idle_numbered) ≡ true
      = let e : w.first + i ≡ w.last = omega (arith, w.in_order) in ap (holds_number t) (get_or-drop w.first l i idle_numbered ∙ ap at e) ∙ w.last_passes in
      let inside : i < length rest = omega (arith, long, w.in_order, w.within) in
      let apart : 0 ≢ i = λ e. absurd (omega (arith, w.in_order, e)) in
      let more : 2 ≤ count (holds_number t) rest
      = count_two (holds_number t) rest 0 i idle_numbered (omega (arith, inside)) inside apart here there in
      absurd (omega (arith, more, ap (λ (u : ℕ). count (holds_number u) rest) q, most)))
      (λ h. h)

  -- What the code asks of each place is, of all places, that the held tickets are distinct.
  pub distinct_as_read : (n : ℕ) → length l ≡ n → list_all (held_last l) (range_with_len 0 n) ≡ held_distinct l
  unfolding held_distinct held_last
  distinct_as_read n h =
      bool_ext _ _
      (λ e.
      let f : (i : ℕ) → i < length l → held_last l i ≡ true
      = λ i k. let z : i ≡ 0 + i = omega arith in ap (held_last l) z ∙ range_at (held_last l) n 0 e i (omega (arith, k, h)) in
      all_i _ l idle_numbered (λ i k. implies_i (has_ticket (at i)) _ (λ q. le-leb _ _ (once f (at i).ticket))))
      (λ e.
      range_i (held_last l) n 0 (λ i k.
      let z : 0 + i ≡ i = omega arith in
      let x = at i in
      ap (held_last l) z
      ∙ implies_i (has_ticket x) _ (λ q.
      let most : count (holds_number x.ticket) l ≤ 1
      = leb-true _ _ (implies_use _ _ (all_at _ l idle_numbered e i (omega (arith, k, h))) q) in
      le-leb _ _ (omega (arith, count_drop (holds_number x.ticket) l i, most)))))
