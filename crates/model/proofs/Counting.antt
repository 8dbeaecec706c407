-- Counting: how many elements of a list pass a test, sums over numbers, and the pigeonhole law.
--
-- Main statements: `count_set` (one replaced element changes a count by the old and the new one), `count_find`, `count_split`, `sum_count`
-- (counts by colour add up), `pigeon`.
use Prim.Native.Nat.{suc, zero, zero-le, ℕ, ◌+◌, ◌<◌, ◌≤◌}
use mathlib.Core.Path.{ap, ap₂, refl, sym, ◌∙◌, ◌≡◌}
use mathlib.Core.Bool.{Bool, false, not, true, true≢false, ◌&&◌}
use mathlib.Core.List.{List, [], ◌++◌, ◌∷◌}
use mathlib.Core.Logic.{inl, inr, ⊎_elim, ◌≢◌, ◌⊎◌}
use native.Mathlib.Nat.{le_of_suc-le-suc, not-suc-le-zero}
use native.Mathlib.Omega.{arith}
use lib.ListN.{get_or, length, set}
use lib.Dec.{eqb}
use borrow.Author.Tests.{eq-eqb, ne_eqb}
use Rattle.model.specs.Lists.{all, all_below, any, count, one_if}
use Rattle.model.proofs.Logic.{and_false, and_i, and_l, and_r, and_true, by_bool, by_eq, or_cases, or_l, or_r}

module _ {A : Type 0} where
  -- a count after one element is replaced.
  pub count_set : (p : A → Bool) (l : List A) (i : ℕ) (x d : A) → i < length l → count p (set l i x) + one_if (p (get_or l i d)) ≡ count p l + one_if (p x)
  unfolding count
  count_set p [] i x d h = absurd (not-suc-le-zero h)
  count_set p (y ∷ l) zero x d h = omega arith
  count_set p (y ∷ l) (suc i) x d h = omega (arith, count_set p l i x d (le_of_suc-le-suc h))

  -- a count by a test that says the same of each element of the list.
  pub count_same : (p q : A → Bool) (l : List A) (d : A) → ((i : ℕ) → i < length l → p (get_or l i d) ≡ q (get_or l i d)) → count p l ≡ count q l
  unfolding count
  count_same p q [] d f = refl
  count_same p q (y ∷ l) d f =
      let e : one_if (p y) ≡ one_if (q y) = ap one_if (f 0 (omega arith)) in
      omega (arith, count_same p q l d (λ i h. f (suc i) (omega arith)))

  -- One element that passes.
  pub count_pos : (p : A → Bool) (l : List A) (i : ℕ) (d : A) → i < length l → p (get_or l i d) ≡ true → 0 < count p l
  unfolding count
  count_pos p [] i d h e = absurd (not-suc-le-zero h)
  count_pos p (y ∷ l) zero d h e = omega (arith, ap one_if e)
  count_pos p (y ∷ l) (suc i) d h e = omega (arith, count_pos p l i d (le_of_suc-le-suc h) e)

  pub count_none : (p : A → Bool) (l : List A) (d : A) → ((i : ℕ) → i < length l → p (get_or l i d) ≡ false) → count p l ≡ 0
  unfolding count
  count_none p [] d f = refl
  count_none p (y ∷ l) d f = omega (arith, ap one_if (f 0 (omega arith)), count_none p l d (λ i h. f (suc i) (omega arith)))

  -- An element that passes, where the count is above 0.
  pub count_find : (p : A → Bool) (l : List A) (d : A) → 0 < count p l → (i : ℕ) × (i < length l) × (p (get_or l i d) ≡ true)
  unfolding count
  count_find p [] d h = absurd (not-suc-le-zero h)
  count_find p (y ∷ l) d h =
      by_bool (p y)
      (λ e. (0, omega arith, e))
      (λ e. let r = count_find p l d (omega (arith, ap one_if e)) in (suc r.0, omega (arith, r.1), r.2))

  pub count_le : (p : A → Bool) (l : List A) → count p l ≤ length l
  unfolding count
  count_le p [] = zero-le
  count_le p (y ∷ l) = by_bool (p y) (λ e. omega (arith, ap one_if e, count_le p l)) (λ e. omega (arith, ap one_if e, count_le p l))

  -- a count is below the length where one element fails.
  pub count_lt : (p : A → Bool) (l : List A) (i : ℕ) (d : A) → i < length l → p (get_or l i d) ≡ false → count p l < length l
  unfolding count
  count_lt p [] i d h e = absurd (not-suc-le-zero h)
  count_lt p (y ∷ l) zero d h e = omega (arith, ap one_if e, count_le p l)
  count_lt p (y ∷ l) (suc i) d h e =
      let ih : count p l < length l = count_lt p l i d (le_of_suc-le-suc h) e in
      by_bool (p y) (λ f. omega (arith, ap one_if f)) (λ f. omega (arith, ap one_if f))

  -- a count by a test that passes where another does.
  pub count_most : (p q : A → Bool) (l : List A) (d : A) → ((i : ℕ) → i < length l → p (get_or l i d) ≡ true → q (get_or l i d) ≡ true) → count p l ≤ count q l
  unfolding count
  count_most p q [] d f = zero-le
  count_most p q (y ∷ l) d f =
      let ih : count p l ≤ count q l = count_most p q l d (λ i h. f (suc i) (omega arith)) in
      by_bool (p y)
      (λ e. omega (arith, ap one_if e, ap one_if (f 0 (omega arith) e)))
      (λ e. omega (arith, ap one_if e))

  -- a count split by a second test.
  pub count_split : (p q : A → Bool) (l : List A) → count p l ≡ count (λ x. p x && q x) l + count (λ x. p x && not (q x)) l
  unfolding count
  count_split p q [] = refl
  count_split p q (y ∷ l) = omega (arith, count_split p q l, each (p y) (q y))
    where
      each : (a b : Bool) → one_if a ≡ one_if (a && b) + one_if (a && not b)
      each true true = refl
      each true false = refl
      each false b = refl

  pub count_append : (p : A → Bool) (l m : List A) → count p (l ++ m) ≡ count p l + count p m
  unfolding count
  count_append p [] m = omega arith
  count_append p (y ∷ l) m = omega (arith, count_append p l m)

  -- All and any.
  pub all_at : (p : A → Bool) (l : List A) (d : A) → all p l ≡ true → (i : ℕ) → i < length l → p (get_or l i d) ≡ true
  unfolding all
  all_at p [] d e i h = absurd (not-suc-le-zero h)
  all_at p (y ∷ l) d e zero h = and_l (p y) (all p l) e
  all_at p (y ∷ l) d e (suc i) h = all_at p l d (and_r (p y) (all p l) e) i (le_of_suc-le-suc h)

  pub all_i : (p : A → Bool) (l : List A) (d : A) → ((i : ℕ) → i < length l → p (get_or l i d) ≡ true) → all p l ≡ true
  unfolding all
  all_i p [] d f = refl
  all_i p (y ∷ l) d f = and_i (p y) (all p l) (f 0 (omega arith)) (all_i p l d (λ i h. f (suc i) (omega arith)))

  pub any_at : (p : A → Bool) (l : List A) (d : A) → any p l ≡ true → (i : ℕ) × (i < length l) × (p (get_or l i d) ≡ true)
  unfolding any
  any_at p [] d e = absurd (true≢false (sym e))
  any_at p (y ∷ l) d e =
      ⊎_elim
      (λ f. (0, omega arith, f))
      (λ f. let r = any_at p l d f in (suc r.0, omega (arith, r.1), r.2))
      (or_cases (p y) (any p l) e)

  pub any_i : (p : A → Bool) (l : List A) (d : A) (i : ℕ) → i < length l → p (get_or l i d) ≡ true → any p l ≡ true
  unfolding any
  any_i p [] d i h e = absurd (not-suc-le-zero h)
  any_i p (y ∷ l) d zero h e = or_l (p y) (any p l) e
  any_i p (y ∷ l) d (suc i) h e = or_r (p y) (any p l) (any_i p l d i (le_of_suc-le-suc h) e)

  -- any, as a count.
  pub any_count : (p : A → Bool) (l : List A) → any p l ≡ true → 0 < count p l
  unfolding any count
  any_count p [] e = absurd (true≢false (sym e))
  any_count p (y ∷ l) e =
      ⊎_elim (λ f. omega (arith, ap one_if f)) (λ f. omega (arith, any_count p l f)) (or_cases (p y) (any p l) e)

  pub count_any : (p : A → Bool) (l : List A) (d : A) → 0 < count p l → any p l ≡ true
  count_any p l d h = let r = count_find p l d h in any_i p l d r.0 r.1 r.2

  -- a fact of each element, after one element is replaced.
  pub each_set : (P : A → Type 0) (l : List A) (j : ℕ) (x d : A) → P x → ((i : ℕ) → i < length l → P (get_or l i d)) → (i : ℕ) → i < length (set l j x) → P (get_or (set l j x) i d)
  each_set P [] j x d h f i g = absurd (not-suc-le-zero g)
  each_set P (y ∷ l) zero x d h f zero g = h
  each_set P (y ∷ l) zero x d h f (suc i) g = f (suc i) g
  each_set P (y ∷ l) (suc j) x d h f zero g = f zero (omega arith)
  each_set P (y ∷ l) (suc j) x d h f (suc i) g = each_set P l j x d h (λ n e. f (suc n) (omega arith)) i (le_of_suc-le-suc g)

  -- Counts that add up element by element.
  pub count_sum_lem : (p q r : A → Bool) (l : List A) (d : A) → ((i : ℕ) → i < length l → one_if (p (get_or l i d)) ≡ one_if (q (get_or l i d)) + one_if (r (get_or l i d))) → count p l ≡ count q l + count r l
  unfolding count
  count_sum_lem p q r [] d f = refl
  count_sum_lem p q r (y ∷ l) d f = omega (arith, f 0 (omega arith), count_sum_lem p q r l d (λ i h. f (suc i) (omega arith)))

-- Tests of all numbers below n.
pub below_at : (p : ℕ → Bool) (n : ℕ) → all_below p n ≡ true → (i : ℕ) → i < n → p i ≡ true
unfolding all_below
below_at p zero e i h = absurd (not-suc-le-zero h)
below_at p (suc n) e i h =
    by_eq i n
    (λ q. ap p q ∙ and_r (all_below p n) (p n) e)
    (λ q. below_at p n (and_l (all_below p n) (p n) e) i (omega arith))

pub below_i : (p : ℕ → Bool) (n : ℕ) → ((i : ℕ) → i < n → p i ≡ true) → all_below p n ≡ true
unfolding all_below
below_i p zero f = refl
below_i p (suc n) f = and_i (all_below p n) (p n) (below_i p n (λ i h. f i (omega arith))) (f n (omega arith))

-- Two tests that say the same of each number below n.
pub below_same : (p q : ℕ → Bool) (n : ℕ) → ((i : ℕ) → i < n → p i ≡ q i) → all_below p n ≡ all_below q n
unfolding all_below
below_same p q zero f = refl
below_same p q (suc n) f = ap₂ (λ (a b : Bool). a && b) (below_same p q n (λ i h. f i (omega arith))) (f n (omega arith))

-- sums.
unfoldable pub sum_below : (ℕ → ℕ) → ℕ → ℕ
sum_below f zero = 0
sum_below f (suc n) = sum_below f n + f n

pub sum_add : (f g : ℕ → ℕ) (n : ℕ) → sum_below (λ j. f j + g j) n ≡ sum_below f n + sum_below g n
unfolding sum_below
sum_add f g zero = refl
sum_add f g (suc n) = omega (arith, sum_add f g n)

-- One part of a sum.
pub sum_part : (f : ℕ → ℕ) (n i : ℕ) → i < n → f i ≤ sum_below f n
unfolding sum_below
sum_part f zero i h = absurd (not-suc-le-zero h)
sum_part f (suc n) i h = by_eq i n (λ e. omega (arith, ap f e)) (λ e. omega (arith, sum_part f n i (omega arith)))

pub sum_same : (f g : ℕ → ℕ) (n : ℕ) → ((j : ℕ) → j < n → f j ≡ g j) → sum_below f n ≡ sum_below g n
unfolding sum_below
sum_same f g zero h = refl
sum_same f g (suc n) h = omega (arith, sum_same f g n (λ j l. h j (omega arith)), h n (omega arith))

-- A sum, its first number apart.
pub sum_first : (f : ℕ → ℕ) (n : ℕ) → sum_below f (suc n) ≡ f 0 + sum_below (λ j. f (suc j)) n
unfolding sum_below
sum_first f zero = omega arith
sum_first f (suc n) = omega (arith, sum_first f n)

-- A sum of n numbers, none above 1, is n just when each is 1.
sum_most : (f : ℕ → ℕ) (n : ℕ) → ((j : ℕ) → j < n → f j ≤ 1) → sum_below f n ≤ n
unfolding sum_below
sum_most f zero h = omega arith
sum_most f (suc n) h = omega (arith, sum_most f n (λ j l. h j (omega arith)), h n (omega arith))

pub sum_ones : (f : ℕ → ℕ) (n : ℕ) → ((j : ℕ) → j < n → f j ≤ 1) → sum_below f n ≡ n → (j : ℕ) → j < n → f j ≡ 1
unfolding sum_below
sum_ones f zero h e j l = absurd (not-suc-le-zero l)
sum_ones f (suc n) h e j l =
    let m = sum_most f n (λ x z. h x (omega arith)) in
    let o = h n (omega arith) in
    by_eq j n
    (λ q. ap f q ∙ omega (arith, m, o, e))
    (λ q. sum_ones f n (λ x z. h x (omega arith)) (omega (arith, m, o, e)) j (omega arith))

pub ones_sum : (f : ℕ → ℕ) (n : ℕ) → ((j : ℕ) → j < n → f j ≡ 1) → sum_below f n ≡ n
unfolding sum_below
ones_sum f zero h = refl
ones_sum f (suc n) h = omega (arith, ones_sum f n (λ j l. h j (omega arith)), h n (omega arith))

-- One number in reach, and none.
sum_none : (b : Bool) (c n : ℕ) → n ≤ c → sum_below (λ j. one_if (b && eqb c j)) n ≡ 0
unfolding sum_below
sum_none b c zero h = refl
sum_none b c (suc n) h = simp (ne_eqb c n (omega arith), and_false) (omega (arith, sum_none b c n (omega arith)))

sum_one : (b : Bool) (c n : ℕ) → c < n → sum_below (λ j. one_if (b && eqb c j)) n ≡ one_if b
unfolding sum_below
sum_one b c zero h = absurd (not-suc-le-zero h)
sum_one b c (suc n) h =
    by_eq c n
    (λ e. simp (eq-eqb c n e, and_true) (omega (arith, sum_none b c n (omega arith))))
    (λ e. simp (ne_eqb c n e, and_false) (omega (arith, sum_one b c n (omega arith))))

sum_zero : (n : ℕ) → sum_below (λ j. 0) n ≡ 0
unfolding sum_below
sum_zero zero = refl
sum_zero (suc n) = omega (arith, sum_zero n)

-- The counts by colour add up to the count of all.
pub sum_count : {A : Type 0} (p : A → Bool) (c : A → ℕ) (l : List A) (d : A) (n : ℕ) → ((i : ℕ) → i < length l → p (get_or l i d) ≡ true → c (get_or l i d) < n) → sum_below (λ j. count (λ x. p x && eqb (c x) j) l) n ≡ count p l
unfolding count
sum_count p c [] d n h = sum_zero n
sum_count p c (y ∷ l) d n h =
    sum_add (λ j. one_if (p y && eqb (c y) j)) (λ j. count (λ x. p x && eqb (c x) j) l) n
    ∙ omega (arith, sum_count p c l d n (λ i g e. h (suc i) (omega arith) e), first)
  where
    first : sum_below (λ j. one_if (p y && eqb (c y) j)) n ≡ one_if (p y)
    first = by_bool (p y) (λ e. sum_one (p y) (c y) n (h 0 (omega arith) e)) (λ e. rw e (sum_zero n))

-- pigeonhole: below n, either some number has f 0, or the sum is at least n.
pub hole_or_full : (f : ℕ → ℕ) (n : ℕ) → ((c : ℕ) × (c < n) × (f c ≡ 0)) ⊎ (n ≤ sum_below f n)
unfolding sum_below
hole_or_full f zero = inr zero-le
hole_or_full f (suc n) =
    ⊎_elim
    (λ r. inl (r.0, omega (arith, r.1), r.2))
    (λ q. by_eq (f n) 0 (λ e. inl (n, omega arith, e)) (λ e. inr (omega arith)))
    (hole_or_full f n)

pub pigeon : (f : ℕ → ℕ) (k c₀ : ℕ) → sum_below f (suc k) ≡ k → 0 < f c₀ → (c : ℕ) × (c ≤ k) × (f c ≡ 0) × (c ≢ c₀)
pigeon f k c₀ s h =
    ⊎_elim
    (λ r. (r.0, omega (arith, r.1), r.2, λ e. omega (arith, r.2, ap f e)))
    (λ q. absurd (omega arith))
    (hole_or_full f (suc k))
