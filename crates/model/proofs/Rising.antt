-- Rows whose plugins stand in the order of a number of theirs.
use Prim.Native.Nat.{suc, zero, ℕ, ◌<◌}
use mathlib.Core.Path.{◌≡◌}
use mathlib.Core.List.{List, [], ◌++◌, ◌∷◌}
use native.Mathlib.Nat.{le_of_suc-le-suc, not-suc-le-zero}
use native.Mathlib.Omega.{arith}
use lib.ListN.{get_or, length}
use borrow.Author.Tests.{eq-eqb, ne_eqb}
use Rattle.model.specs.Queue.{without}
use Rattle.model.proofs.Logic.{by_eq}
use Rattle.model.proofs.Rows.{each_without}

-- Each element's number is below those of all that come after it.
pub data Rising (f : ℕ → ℕ) : List ℕ → Type 0 where
  empty : Rising f []
  more : {x : ℕ} {row : List ℕ} → ((j : ℕ) → j < length row → f x < f (get_or row j 0)) → Rising f row → Rising f (x ∷ row)

pub rising_lt : (f : ℕ → ℕ) (row : List ℕ) → Rising f row → (i j : ℕ) → i < j → j < length row → f (get_or row i 0) < f (get_or row j 0)
rising_lt f [] r i j a b = absurd (not-suc-le-zero b)
rising_lt f (x ∷ row) (more h r) i zero a b = absurd (not-suc-le-zero a)
rising_lt f (x ∷ row) (more h r) zero (suc j) a b = h j (le_of_suc-le-suc b)
rising_lt f (x ∷ row) (more h r) (suc i) (suc j) a b = rising_lt f row r i j (le_of_suc-le-suc a) (le_of_suc-le-suc b)

pub rising_without : (f : ℕ → ℕ) (p : ℕ) (row : List ℕ) → Rising f row → Rising f (without p row)
unfolding without
rising_without f p [] r = r
rising_without f p (x ∷ row) (more h r) =
    by_eq x p
    (λ e. rw (eq-eqb x p e) r)
    (λ e. rw (ne_eqb x p e) (more (each_without (λ y. f x < f y) p row h) (rising_without f p row r)))

-- What holds of each element of a row and of one more.
pub each_snoc : (P : ℕ → Type 0) (row : List ℕ) (p : ℕ) → ((j : ℕ) → j < length row → P (get_or row j 0)) → P p → (j : ℕ) → j < length (row ++ (p ∷ [])) → P (get_or (row ++ (p ∷ [])) j 0)
each_snoc P [] p h q zero b = q
each_snoc P [] p h q (suc j) b = absurd (not-suc-le-zero (le_of_suc-le-suc b))
each_snoc P (x ∷ row) p h q zero b = h 0 (omega arith)
each_snoc P (x ∷ row) p h q (suc j) b = each_snoc P row p (λ i a. h (suc i) (omega arith)) q j (le_of_suc-le-suc b)

pub rising_snoc : (f : ℕ → ℕ) (row : List ℕ) (p : ℕ) → Rising f row → ((j : ℕ) → j < length row → f (get_or row j 0) < f p) → Rising f (row ++ (p ∷ []))
rising_snoc f [] p r h = more (λ j b. absurd (not-suc-le-zero b)) empty
rising_snoc f (x ∷ row) p (more a r) h =
    more (each_snoc (λ y. f x < f y) row p a (h 0 (omega arith))) (rising_snoc f row p r (λ j b. h (suc j) (omega arith)))

-- Another number that says the same of each element.
pub rising_same : (f g : ℕ → ℕ) (row : List ℕ) → ((j : ℕ) → j < length row → g (get_or row j 0) ≡ f (get_or row j 0)) → Rising f row → Rising g row
rising_same f g [] e r = empty
rising_same f g (x ∷ row) e (more h r) =
    more {x = x} {row = row} (λ j b. omega (arith, h j b, e 0 (omega arith), e (suc j) (omega arith))) (rising_same f g row (λ j b. e (suc j) (omega arith)) r)
