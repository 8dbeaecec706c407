-- A pass over the places of a list is one over its records.
use Prim.Native.Nat.{ℕ, zero, suc, ◌+◌, ◌-◌, ◌<◌, ◌≤◌}
use mathlib.Core.Path.{ap, refl, sym, ◌∙◌, ◌≡◌}
use mathlib.Core.Bool.{Bool, false, true, ◌&&◌, ◌||◌}
use mathlib.Core.List.{List, [], ◌∷◌}
use native.Mathlib.Omega.{arith}
use lib.ListN.{get_or, length}
use mir.Val.{bool_byte}
use Rattle.std.specs.List.{filter, fold, list_all, list_any, range_with_len, sum_by}
use Rattle.std.proofs.Math.ListN.{drop}
use Rattle.std.proofs.lemmas.List.{get_or-drop, length-drop}
use Rattle.model.specs.Lists.{all, any, count, numbers_from}
use Rattle.model.proofs.Counting.{count_le}
use Rattle.model.proofs.Logic.{by_bool}
use Rattle.numbered.specs.declared.NumberedRecord.{NumberedRecord}
use Rattle.numbered.specs.Calls.{idle_numbered}

-- f answers at each place from a on as p does at the record there.
abbrev Reads : (ℕ → Bool) → (NumberedRecord → Bool) → List NumberedRecord → ℕ → Type 0
Reads f p l a = (i : ℕ) → i < length l → f (a + i) ≡ p (get_or l i idle_numbered)

module _ (f : ℕ → Bool) (p : NumberedRecord → Bool) where
  first : (r : NumberedRecord) (l : List NumberedRecord) (a : ℕ) → Reads f p (r ∷ l) a → f a ≡ p r
  first r l a h = let e : a + 0 ≡ a = omega arith in ap f (sym e) ∙ h 0 (omega arith)

  rest : (r : NumberedRecord) (l : List NumberedRecord) (a : ℕ) → Reads f p (r ∷ l) a → Reads f p l (a + 1)
  rest r l a h i k = let e : a + 1 + i ≡ a + suc i = omega arith in ap f e ∙ h (suc i) (omega arith)

  all_from : (l : List NumberedRecord) (a : ℕ) → Reads f p l a → list_all f (range_with_len a (length l)) ≡ all p l
  unfolding all
  all_from [] a h = refl
  all_from (r ∷ l) a h = rw (first r l a h, all_from l (a + 1) (rest r l a h)) refl

  any_from : (l : List NumberedRecord) (a : ℕ) → Reads f p l a → list_any f (range_with_len a (length l)) ≡ any p l
  unfolding any
  any_from [] a h = refl
  any_from (r ∷ l) a h = rw (first r l a h, any_from l (a + 1) (rest r l a h)) refl

  count_from : (l : List NumberedRecord) (a : ℕ) → Reads f p l a → length (filter f (range_with_len a (length l))) ≡ count p l
  unfolding count
  count_from [] a h = refl
  count_from (r ∷ l) a h =
      by_bool (p r)
      (λ e. rw (first r l a h, e) (omega (arith, count_from l (a + 1) (rest r l a h))))
      (λ e. rw (first r l a h, e) (omega (arith, count_from l (a + 1) (rest r l a h))))

-- How many pass a test is the sum of 1 for each that does.
sum_from : (f : ℕ → Bool) (xs : List ℕ) (n : ℕ) → fold (λ (a x : ℕ). a + bool_byte (f x)) n xs ≡ n + length (filter f xs)
sum_from f [] n = omega arith
sum_from f (x ∷ xs) n =
    by_bool (f x)
    (λ e. sum_from f xs (n + bool_byte (f x)) ∙ rw e (omega arith))
    (λ e. sum_from f xs (n + bool_byte (f x)) ∙ rw e (omega arith))

-- Whether one does is found by reading them all.
any_read : (f : ℕ → Bool) (xs : List ℕ) (b : Bool) → fold (λ (a : Bool) (x : ℕ). a || f x) b xs ≡ (b || list_any f xs)
any_read f [] true = refl
any_read f [] false = refl
any_read f (x ∷ xs) true = any_read f xs true
any_read f (x ∷ xs) false = by_bool (f x) (λ e. any_read f xs (f x) ∙ rw e refl) (λ e. any_read f xs (f x) ∙ rw e refl)

module _ (p : NumberedRecord → Bool) (l : List NumberedRecord) (n : ℕ) (h : length l ≡ n) where
  abbrev at_place : ℕ → Bool
  at_place i = p (get_or l i idle_numbered)

  from_none : Reads at_place p l 0
  from_none i k = let e : 0 + i ≡ i = omega arith in ap at_place e

  pub all_reads : list_all at_place (range_with_len 0 n) ≡ all p l
  all_reads = ap (λ (m : ℕ). list_all at_place (range_with_len 0 m)) (sym h) ∙ all_from at_place p l 0 from_none

  pub any_reads : list_any at_place (range_with_len 0 n) ≡ any p l
  any_reads = ap (λ (m : ℕ). list_any at_place (range_with_len 0 m)) (sym h) ∙ any_from at_place p l 0 from_none

  pub count_reads : length (filter at_place (range_with_len 0 n)) ≡ count p l
  count_reads = ap (λ (m : ℕ). length (filter at_place (range_with_len 0 m))) (sym h) ∙ count_from at_place p l 0 from_none

  pub sum_reads : sum_by (λ i. bool_byte (at_place i)) (range_with_len 0 n) ≡ count p l
  sum_reads = sum_from at_place (range_with_len 0 n) 0 ∙ omega (arith, count_reads)

  pub sum_most : sum_by (λ i. bool_byte (at_place i)) (range_with_len 0 n) ≤ n
  sum_most = omega (arith, sum_reads, count_le p l, h)

  pub found_reads : fold (λ (a : Bool) (i : ℕ). a || at_place i) false (range_with_len 0 n) ≡ any p l
  found_reads = any_read at_place (range_with_len 0 n) false ∙ any_reads

-- The same of the records from the place a on.
module _ (p : NumberedRecord → Bool) (l : List NumberedRecord) (a n : ℕ) (h : length l - a ≡ n) where
  abbrev at_place_of : ℕ → Bool
  at_place_of i = p (get_or l i idle_numbered)

  from_place : Reads at_place_of p (drop a l) a
  from_place i k = ap p (sym (get_or-drop a l i idle_numbered))

  counted_on : length (filter at_place_of (range_with_len a n)) ≡ count p (drop a l)
  counted_on =
      ap (λ (m : ℕ). length (filter at_place_of (range_with_len a m))) (sym h ∙ sym (length-drop a l)) ∙ count_from at_place_of p (drop a l) a from_place

  pub sum_on : sum_by (λ i. bool_byte (at_place_of i)) (range_with_len a n) ≡ count p (drop a l)
  sum_on = sum_from at_place_of (range_with_len a n) 0 ∙ omega (arith, counted_on)

  pub sum_on_most : sum_by (λ i. bool_byte (at_place_of i)) (range_with_len a n) ≤ n
  sum_on_most = omega (arith, sum_on, count_le p (drop a l), length-drop a l, h)

-- The n numbers after a.
pub all_after : (q : ℕ → Bool) (a n : ℕ) → list_all (λ t. q (t + 1)) (range_with_len a n) ≡ all q (numbers_from (suc a) n)
unfolding all numbers_from
all_after q a zero = refl
all_after q a (suc n) = let e : a + 1 ≡ suc a = omega arith in rw e (ap (λ (b : Bool). q (suc a) && b) (all_after q (suc a) n))
