-- Laws of rows of plugin numbers: how often one stands in a row, its position, and a row without it.
use Prim.Native.Nat.{suc, zero, ℕ, ◌+◌, ◌<◌, ◌≤◌}
use mathlib.Core.Path.{ap, ap₂, refl, sym, ◌∙◌, ◌≡◌}
use mathlib.Core.Bool.{Bool, true}
use mathlib.Core.List.{List, [], map, ◌++◌, ◌∷◌}
use mathlib.Core.Logic.{◌≢◌}
use native.Mathlib.Nat.{le_of_suc-le-suc, not-suc-le-zero}
use native.Mathlib.Omega.{arith}
use lib.ListN.{drop, get_or, length, take, take-append-drop}
use lib.Dec.{eqb}
use borrow.Author.Tests.{eq-eqb, ne_eqb}
use Rattle.model.specs.Lists.{count, numbers_from, one_if}
use Rattle.model.specs.Queue.{position, without}
use Rattle.model.proofs.Counting.{count_append, count_pos}
use Rattle.model.proofs.Logic.{by_eq}
use Rattle.model.proofs.Relation.{times}

pub times_cons_same : (p x : ℕ) (row : List ℕ) → x ≡ p → times p (x ∷ row) ≡ suc (times p row)
unfolding count
times_cons_same p x row e = omega (arith, ap one_if (eq-eqb x p e))

pub times_cons_other : (p x : ℕ) (row : List ℕ) → x ≢ p → times p (x ∷ row) ≡ times p row
unfolding count
times_cons_other p x row e = omega (arith, ap one_if (ne_eqb x p e))

-- Two maps that say the same of each element.
pub map_same : {A B : Type 0} (f g : A → B) (l : List A) (d : A) → ((i : ℕ) → i < length l → f (get_or l i d) ≡ g (get_or l i d)) → map f l ≡ map g l
map_same f g [] d h = refl
map_same f g (y ∷ l) d h = ap₂ (λ a t. a ∷ t) (h 0 (omega arith)) (map_same f g l d (λ i q. h (suc i) (omega arith)))

-- Two places of a list that pass: a count of 2 at least.
pub count_two : {A : Type 0} (p : A → Bool) (l : List A) (i j : ℕ) (d : A) → i < length l → j < length l → i ≢ j → p (get_or l i d) ≡ true → p (get_or l j d) ≡ true → 2 ≤ count p l
unfolding count
count_two p [] i j d h k n a b = absurd (not-suc-le-zero h)
count_two p (y ∷ l) zero zero d h k n a b = absurd (n refl)
count_two p (y ∷ l) zero (suc j) d h k n a b = omega (arith, ap one_if a, count_pos p l j d (le_of_suc-le-suc k) b)
count_two p (y ∷ l) (suc i) zero d h k n a b = omega (arith, ap one_if b, count_pos p l i d (le_of_suc-le-suc h) a)
count_two p (y ∷ l) (suc i) (suc j) d h k n a b = omega (arith, count_two p l i j d (le_of_suc-le-suc h) (le_of_suc-le-suc k) (λ e. n (ap suc e)) a b)

-- p is taken out.
pub times_without : (p x : ℕ) (row : List ℕ) → 0 < times p row → times x (without p row) + one_if (eqb p x) ≡ times x row
unfolding count without
times_without p x [] h = absurd (not-suc-le-zero h)
times_without p x (y ∷ row) h =
    by_eq y p
    (λ e. rw (eq-eqb y p e) (omega (arith, ap (λ (z : ℕ). one_if (eqb z x)) e)))
    (λ e. rw (ne_eqb y p e) (omega (arith, times_without p x row (omega (arith, ap one_if (ne_eqb y p e))))))

pub length_without : (p : ℕ) (row : List ℕ) → 0 < times p row → suc (length (without p row)) ≡ length row
unfolding count without
length_without p [] h = absurd (not-suc-le-zero h)
length_without p (y ∷ row) h =
    by_eq y p
    (λ e. rw (eq-eqb y p e))
    (λ e. rw (ne_eqb y p e) (ap suc (length_without p row (omega (arith, ap one_if (ne_eqb y p e))))))

pub without_append : (p : ℕ) (a b : List ℕ) → 0 < times p a → without p (a ++ b) ≡ without p a ++ b
unfolding count without
without_append p [] b h = absurd (not-suc-le-zero h)
without_append p (y ∷ a) b h =
    by_eq y p
    (λ e. rw (eq-eqb y p e))
    (λ e. rw (ne_eqb y p e) (ap (λ t. y ∷ t) (without_append p a b (omega (arith, ap one_if (ne_eqb y p e))))))

-- The position of what stands in a row once.
pub position_at : (p : ℕ) (row : List ℕ) (j : ℕ) → j < length row → get_or row j 0 ≡ p → times p row ≤ 1 → position p row ≡ suc j
unfolding count position
position_at p [] j h e t = absurd (not-suc-le-zero h)
position_at p (y ∷ row) zero h e t = rw (eq-eqb y p e)
position_at p (y ∷ row) (suc j) h e t =
    by_eq y p
    (λ q. absurd (omega (arith, ap one_if (eq-eqb y p q), count_pos (λ x. eqb x p) row j 0 (le_of_suc-le-suc h) (eq-eqb _ _ e))))
    (λ q. rw (ne_eqb y p q) (ap suc (position_at p row j (le_of_suc-le-suc h) e (omega (arith, ap one_if (ne_eqb y p q))))))

-- a row in two parts.
pub times_split : (p n : ℕ) (row : List ℕ) → times p row ≡ times p (take n row) + times p (drop n row)
times_split p n row = ap (times p) (sym (take-append-drop n row)) ∙ count_append (λ x. eqb x p) (take n row) (drop n row)

pub each_cons : (P : ℕ → Type 0) (y : ℕ) (row : List ℕ) → P y → ((j : ℕ) → j < length row → P (get_or row j 0)) → (j : ℕ) → j < length (y ∷ row) → P (get_or (y ∷ row) j 0)
each_cons P y row h f zero q = h
each_cons P y row h f (suc j) q = f j (le_of_suc-le-suc q)

-- What holds of each element of a row holds of each that is left.
pub each_without : (P : ℕ → Type 0) (p : ℕ) (row : List ℕ) → ((j : ℕ) → j < length row → P (get_or row j 0)) → (j : ℕ) → j < length (without p row) → P (get_or (without p row) j 0)
unfolding without
each_without P p [] f = f
each_without P p (y ∷ row) f =
    by_eq y p
    (λ e. rw (eq-eqb y p e) (λ j h. f (suc j) (omega arith)))
    (λ e. rw (ne_eqb y p e) (each_cons P y (without p row) (f 0 (omega arith)) (each_without P p row (λ j h. f (suc j) (omega arith)))))

-- Numbers in a row.
pub numbers_length : (p n : ℕ) → length (numbers_from p n) ≡ n
unfolding numbers_from
numbers_length p zero = refl
numbers_length p (suc n) = ap suc (numbers_length (suc p) n)

pub numbers_at : (p n j : ℕ) (d : ℕ) → j < n → get_or (numbers_from p n) j d ≡ p + j
unfolding numbers_from
numbers_at p zero j d h = absurd (not-suc-le-zero h)
numbers_at p (suc n) zero d h = omega arith
numbers_at p (suc n) (suc j) d h = numbers_at (suc p) n j d (le_of_suc-le-suc h) ∙ omega arith

pub numbers_below : (p n s : ℕ) → s < p → times s (numbers_from p n) ≡ 0
unfolding numbers_from count
numbers_below p zero s h = refl
numbers_below p (suc n) s h = times_cons_other s p (numbers_from (suc p) n) (λ e. omega arith) ∙ numbers_below (suc p) n s (omega arith)

pub numbers_once : (p n s : ℕ) → p ≤ s → s < p + n → times s (numbers_from p n) ≡ 1
unfolding numbers_from
numbers_once p zero s a b = absurd (omega arith)
numbers_once p (suc n) s a b =
    by_eq p s
    (λ e. times_cons_same s p (numbers_from (suc p) n) e ∙ ap suc (numbers_below (suc p) n s (omega arith)))
    (λ e. times_cons_other s p (numbers_from (suc p) n) e ∙ numbers_once (suc p) n s (omega arith) (omega arith))
