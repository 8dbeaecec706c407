-- Laws of the three slices as a list of records.
--
-- Main statements: `all_long` (what it is to have the length n), `length_records`, `records_at`, `lent_records` (slices of one length are the slices of
-- their records), `lent_set`.
use Prim.Native.Nat.{suc, zero, ℕ, ◌<◌}
use mathlib.Core.Path.{ap, refl, ◌∙◌, ◌≡◌}
use mathlib.Core.Bool.{true}
use mathlib.Core.List.{List, [], map, tail, ◌∷◌}
use native.Mathlib.Nat.{le_of_suc-le-suc, not-suc-le-zero}
use native.Mathlib.Omega.{arith}
use lib.ListN.{get_or, length, set}
use borrow.Author.Tests.{eqb-true}
use lib.Seq.{map-set}
use Rattle.model.proofs.Logic.{and_l, and_r}
use Rattle.model.proofs.SliceLaws.{get_d_tail}
use Rattle.numbered.specs.declared.NumberedRecord.{NumberedRecord}
use Rattle.numbered.specs.Calls.{numbered_record}
use Rattle.numbered.specs.Slices.{numbered_length_is, numbered_lent, numbered_lent_of, numbered_records}

-- What each of the three slices has to have for the length n.
pub record Long (rs ms ts : List ℕ) (n : ℕ) : Type 0 where
  pub regions : length rs ≡ n
  pub marks : length ms ≡ n
  pub tickets : length ts ≡ n

pub all_long : (rs ms ts : List ℕ) (n : ℕ) → numbered_length_is (numbered_lent rs ms ts) n ≡ true → Long rs ms ts n
unfolding numbered_length_is
all_long rs ms ts n e =
    let two = and_l _ _ e in
    record { regions = eqb-true _ _ (and_l _ _ two); marks = eqb-true _ _ (and_r _ _ two); tickets = eqb-true _ _ (and_r _ _ e) }

pub length_records : (rs ms ts : List ℕ) → length (numbered_records rs ms ts) ≡ length rs
unfolding numbered_records
length_records [] ms ts = refl
length_records (r ∷ rs) ms ts = ap suc (length_records rs (tail ms) (tail ts))

-- Slices of the length n are a list of n records.
pub counted_records : (rs ms ts : List ℕ) (n : ℕ) → numbered_length_is (numbered_lent rs ms ts) n ≡ true → length (numbered_records rs ms ts) ≡ n
counted_records rs ms ts n e = length_records rs ms ts ∙ (all_long rs ms ts n e).regions

-- The record i of three slices.
pub records_at : (none : NumberedRecord) (rs ms ts : List ℕ) (i : ℕ) → i < length rs
    → get_or (numbered_records rs ms ts) i none ≡ numbered_record (get_or rs i 0) (get_or ms i 0) (get_or ts i 0)
unfolding numbered_records
records_at none [] ms ts i h = absurd (not-suc-le-zero h)
records_at none (r ∷ rs) ms ts zero h = refl
records_at none (r ∷ rs) ms ts (suc i) h =
    records_at none rs (tail ms) (tail ts) i (le_of_suc-le-suc h) ∙ (λ j. numbered_record (get_or rs i 0) (get_d_tail ms i j) (get_d_tail ts i j))

-- Each field of the records is its slice.
pub regions_of : (rs ms ts : List ℕ) → map (λ r. r.region) (numbered_records rs ms ts) ≡ rs
unfolding numbered_records
regions_of [] ms ts = refl
regions_of (r ∷ rs) ms ts = ap (λ t. r ∷ t) (regions_of rs (tail ms) (tail ts))

pub marks_of : (rs ms ts : List ℕ) → length ms ≡ length rs → map (λ r. r.mark) (numbered_records rs ms ts) ≡ ms
unfolding numbered_records
marks_of [] [] ts e = refl
marks_of [] (x ∷ ms) ts e = absurd (omega arith)
marks_of (r ∷ rs) [] ts e = absurd (omega arith)
marks_of (r ∷ rs) (x ∷ ms) ts e = ap (λ t. x ∷ t) (marks_of rs ms (tail ts) (omega arith))

pub tickets_of : (rs ms ts : List ℕ) → length ts ≡ length rs → map (λ r. r.ticket) (numbered_records rs ms ts) ≡ ts
unfolding numbered_records
tickets_of [] ms [] e = refl
tickets_of [] ms (x ∷ ts) e = absurd (omega arith)
tickets_of (r ∷ rs) ms [] e = absurd (omega arith)
tickets_of (r ∷ rs) ms (x ∷ ts) e = ap (λ t. x ∷ t) (tickets_of rs (tail ms) ts (omega arith))

pub lent_records : (rs ms ts : List ℕ) → length ms ≡ length rs → length ts ≡ length rs → numbered_lent_of (numbered_records rs ms ts) ≡ numbered_lent rs ms ts
lent_records rs ms ts em et = λ j. numbered_lent (regions_of rs ms ts j) (marks_of rs ms ts em j) (tickets_of rs ms ts et j)

-- The slices of a list in which one record is replaced.
pub lent_set : (l : List NumberedRecord) (i : ℕ) (r : NumberedRecord)
    → numbered_lent_of (set l i r)
    ≡ numbered_lent (set (map (λ x. x.region) l) i r.region) (set (map (λ x. x.mark) l) i r.mark) (set (map (λ x. x.ticket) l) i r.ticket)
lent_set l i r =
    λ j. numbered_lent (map-set (λ (x : NumberedRecord). x.region) l i r j) (map-set (λ (x : NumberedRecord). x.mark) l i r j) (map-set (λ (x : NumberedRecord). x.ticket) l i r j)
