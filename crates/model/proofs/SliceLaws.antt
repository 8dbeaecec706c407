-- Laws of the five slices as a list of records.
--
-- Main statements: `length_records`, `records_at`, `lent_records` (slices of one length are the slices of their records).
use Prim.Native.Nat.{suc, zero, ℕ, ◌<◌}
use mathlib.Core.Path.{ap, refl, ◌∙◌, ◌≡◌}
use mathlib.Core.Bool.{true}
use mathlib.Core.List.{List, [], map, tail, ◌∷◌}
use native.Mathlib.Nat.{le_of_suc-le-suc, not-suc-le-zero}
use native.Mathlib.Omega.{arith}
use lib.ListN.{get_or, length, length-map, set}
use borrow.Author.Tests.{eq-eqb, eqb-true}
use lib.Seq.{map-set}
use Rattle.model.specs.declared.Record.{Record}
use Rattle.model.specs.Calls.{rec}
use Rattle.model.specs.Slices.{length_is, lent, lent_of, records, records_of}
use Rattle.model.proofs.Logic.{and_i, and_l, and_r}

pub length_records : (rs ms vs cs ss : List ℕ) → length (records rs ms vs cs ss) ≡ length rs
unfolding records
length_records [] ms vs cs ss = refl
length_records (r ∷ rs) ms vs cs ss = ap suc (length_records rs (tail ms) (tail vs) (tail cs) (tail ss))

pub get_d_tail : (l : List ℕ) (i : ℕ) → get_or (tail l) i 0 ≡ get_or l (suc i) 0
get_d_tail [] i = refl
get_d_tail (x ∷ l) i = refl

-- The record i of five slices.
pub records_at : (none : Record) (rs ms vs cs ss : List ℕ) (i : ℕ) → i < length rs → get_or (records rs ms vs cs ss) i none ≡ rec (get_or rs i 0) (get_or ms i 0) (get_or vs i 0) (get_or cs i 0) (get_or ss i 0)
unfolding records
records_at none [] ms vs cs ss i h = absurd (not-suc-le-zero h)
records_at none (r ∷ rs) ms vs cs ss zero h = refl
records_at none (r ∷ rs) ms vs cs ss (suc i) h =
    records_at none rs (tail ms) (tail vs) (tail cs) (tail ss) i (le_of_suc-le-suc h)
    ∙ (λ j. rec (get_or rs i 0) (get_d_tail ms i j) (get_d_tail vs i j) (get_d_tail cs i j) (get_d_tail ss i j))

-- Each field of the records is its slice.
pub regions_of : (rs ms vs cs ss : List ℕ) → map (λ r. r.region) (records rs ms vs cs ss) ≡ rs
unfolding records
regions_of [] ms vs cs ss = refl
regions_of (r ∷ rs) ms vs cs ss = ap (λ t. r ∷ t) (regions_of rs (tail ms) (tail vs) (tail cs) (tail ss))

pub marks_of : (rs ms vs cs ss : List ℕ) → length ms ≡ length rs → map (λ r. r.mark) (records rs ms vs cs ss) ≡ ms
unfolding records
marks_of [] [] vs cs ss e = refl
marks_of [] (x ∷ ms) vs cs ss e = absurd (omega arith)
marks_of (r ∷ rs) [] vs cs ss e = absurd (omega arith)
marks_of (r ∷ rs) (x ∷ ms) vs cs ss e = ap (λ t. x ∷ t) (marks_of rs ms (tail vs) (tail cs) (tail ss) (omega arith))

pub values_of : (rs ms vs cs ss : List ℕ) → length vs ≡ length rs → map (λ r. r.value.0) (records rs ms vs cs ss) ≡ vs
unfolding records
values_of [] ms [] cs ss e = refl
values_of [] ms (x ∷ vs) cs ss e = absurd (omega arith)
values_of (r ∷ rs) ms [] cs ss e = absurd (omega arith)
values_of (r ∷ rs) ms (x ∷ vs) cs ss e = ap (λ t. x ∷ t) (values_of rs (tail ms) vs (tail cs) (tail ss) (omega arith))

pub colours_of : (rs ms vs cs ss : List ℕ) → length cs ≡ length rs → map (λ r. r.colour.0) (records rs ms vs cs ss) ≡ cs
unfolding records
colours_of [] ms vs [] ss e = refl
colours_of [] ms vs (x ∷ cs) ss e = absurd (omega arith)
colours_of (r ∷ rs) ms vs [] ss e = absurd (omega arith)
colours_of (r ∷ rs) ms vs (x ∷ cs) ss e = ap (λ t. x ∷ t) (colours_of rs (tail ms) (tail vs) cs (tail ss) (omega arith))

pub slots_of : (rs ms vs cs ss : List ℕ) → length ss ≡ length rs → map (λ r. r.slot.0) (records rs ms vs cs ss) ≡ ss
unfolding records
slots_of [] ms vs cs [] e = refl
slots_of [] ms vs cs (x ∷ ss) e = absurd (omega arith)
slots_of (r ∷ rs) ms vs cs [] e = absurd (omega arith)
slots_of (r ∷ rs) ms vs cs (x ∷ ss) e = ap (λ t. x ∷ t) (slots_of rs (tail ms) (tail vs) (tail cs) ss (omega arith))

pub lent_records : (rs ms vs cs ss : List ℕ) → length ms ≡ length rs → length vs ≡ length rs → length cs ≡ length rs → length ss ≡ length rs
    → lent_of (records rs ms vs cs ss) ≡ lent rs ms vs cs ss
lent_records rs ms vs cs ss em ev ec es =
    λ j. lent (regions_of rs ms vs cs ss j) (marks_of rs ms vs cs ss em j) (values_of rs ms vs cs ss ev j) (colours_of rs ms vs cs ss ec j)
    (slots_of rs ms vs cs ss es j)

-- The slices of a list in which one record is replaced.
pub lent_set : (l : List Record) (i : ℕ) (r : Record)
    → lent_of (set l i r)
    ≡ lent (set (map (λ x. x.region) l) i r.region) (set (map (λ x. x.mark) l) i r.mark) (set (map (λ x. x.value.0) l) i r.value.0)
    (set (map (λ x. x.colour.0) l) i r.colour.0) (set (map (λ x. x.slot.0) l) i r.slot.0)
lent_set l i r =
    λ j. lent (map-set (λ (x : Record). x.region) l i r j) (map-set (λ (x : Record). x.mark) l i r j) (map-set (λ (x : Record). x.value.0) l i r j)
    (map-set (λ (x : Record). x.colour.0) l i r j) (map-set (λ (x : Record). x.slot.0) l i r j)

-- The records of the slices of a list are that list.
pub records_lent : (l : List Record) → records_of (lent_of l) ≡ l
unfolding records
records_lent [] = refl
records_lent (r ∷ l) = ap (λ t. r ∷ t) (records_lent l)

-- The slices of a list of n records have the length n.
pub lent_length : (l : List Record) (n : ℕ) → length l ≡ n → length_is (lent_of l) n ≡ true
unfolding length_is
lent_length l n e =
    and_i _ _ (and_i _ _ (and_i _ _ (and_i _ _
    (eq-eqb _ _ (length-map l (λ (r : Record). r.region) ∙ e))
    (eq-eqb _ _ (length-map l (λ (r : Record). r.mark) ∙ e)))
    (eq-eqb _ _ (length-map l (λ (r : Record). r.value.0) ∙ e)))
    (eq-eqb _ _ (length-map l (λ (r : Record). r.colour.0) ∙ e)))
    (eq-eqb _ _ (length-map l (λ (r : Record). r.slot.0) ∙ e))

-- What each of the five slices has to have for the length n.
pub record Long (rs ms vs cs ss : List ℕ) (n : ℕ) : Type 0 where
  pub regions : length rs ≡ n
  pub marks : length ms ≡ n
  pub values : length vs ≡ n
  pub colours : length cs ≡ n
  pub slots : length ss ≡ n

pub all_long : (rs ms vs cs ss : List ℕ) (n : ℕ) → length_is (lent rs ms vs cs ss) n ≡ true → Long rs ms vs cs ss n
unfolding length_is
all_long rs ms vs cs ss n e =
    let four = and_l _ _ e in
    let three = and_l _ _ four in
    let two = and_l _ _ three in
    record {
      regions = eqb-true _ _ (and_l _ _ two);
      marks = eqb-true _ _ (and_r _ _ two);
      values = eqb-true _ _ (and_r _ _ three);
      colours = eqb-true _ _ (and_r _ _ four);
      slots = eqb-true _ _ (and_r _ _ e);
    }

-- Slices of the length n are a list of n records.
pub counted_records : (rs ms vs cs ss : List ℕ) (n : ℕ) → length_is (lent rs ms vs cs ss) n ≡ true → length (records rs ms vs cs ss) ≡ n
counted_records rs ms vs cs ss n e = length_records rs ms vs cs ss ∙ (all_long rs ms vs cs ss n e).regions
