-- New colours: the scan finds a free colour whenever one is asked for.
--
-- Main statements: `free_use` (what a free colour is), `new_colour_lem` (where the counts add up to k and the words' one colour is counted, the
-- new colour is free and in range).
use Prim.Native.Nat.{ℕ, zero, suc, ◌+◌, ◌-◌, ◌≤◌, ◌<◌}
use mathlib.Core.Path.{◌≡◌, refl, ap, ◌∙◌}
use mathlib.Core.Bool.{Bool, true, not, ◌&&◌}
use mathlib.Core.Logic.{◌≢◌}
use native.Mathlib.Nat.{not-suc-le-zero, le_of_suc-le-suc}
use native.Mathlib.Omega.{arith}
use lib.ListN.{get_or}
use lib.Dec.{eqb}
use borrow.Author.Tests.{not-true, eqb-true, eqb-false, lt-ltb, le-ltb, eq-eqb, ne_eqb}
use Rattle.model.specs.declared.Gate.{Gate}
use Rattle.model.specs.Steps.{col, next_colour, free_colour, scan, new_colour}
use Rattle.model.proofs.Logic.{by_bool, by_lt, and_l, and_r}
use Rattle.model.proofs.Counting.{sum_below, pigeon}

-- j colours up from c.
unfoldable pub ups : ℕ → ℕ → ℕ → ℕ
ups k zero c = c
ups k (suc j) c = ups k j (next_colour k c)

pub up_below : (k c : ℕ) → c < k → next_colour k c ≡ suc c
unfolding next_colour
up_below k c h = simp (lt-ltb c k h) (omega arith)

pub up_last : (k : ℕ) → next_colour k k ≡ 0
unfolding next_colour
up_last k = simp (le-ltb k k (omega arith))

pub up_le : (k c : ℕ) → next_colour k c ≤ k
unfolding next_colour
up_le k c = by_lt c k (λ h. simp (lt-ltb c k h) (omega arith)) (λ h. simp (le-ltb c k h) (omega arith))

-- In a block, and past its end.
pub ups_on : (k j c : ℕ) → c + j ≤ k → ups k j c ≡ c + j
unfolding ups
ups_on k zero c h = omega arith
ups_on k (suc j) c h = ap (ups k j) (up_below k c (omega arith)) ∙ ups_on k j (suc c) (omega arith) ∙ omega arith

-- Past the last colour: from 0 again.
pub ups_round : (k j n m c : ℕ) → c + n ≡ k → m ≡ n + j → ups k (suc m) c ≡ ups k j 0
unfolding ups
ups_round k j zero m c e f = let q : c ≡ k = omega arith in let r : m ≡ j = omega arith in rw (r, q, up_last)
ups_round k j (suc n) zero c e f = absurd (omega arith)
ups_round k j (suc n) (suc m) c e f = rw (up_below k c (omega arith)) (ups_round k j n m (suc c) (omega arith) (omega arith))

-- Every other colour is reached in at most k steps.
pub reach : (k c c' : ℕ) → c ≤ k → c' ≤ k → c' ≢ c → (j : ℕ) × (j < k) × (ups k (suc j) c ≡ c')
reach k c c' h h' ne =
    by_lt c c'
    (λ l. (c' - c - 1, omega arith, ap (λ (x : ℕ). ups k x c) (omega arith) ∙ ups_on k (c' - c) c (omega arith) ∙ omega arith))
    (λ l. (k - c + c', omega arith, ups_round k c' (k - c) (k - c + c') c (omega arith) refl ∙ ups_on k c' 0 (omega arith) ∙ omega arith))

pub scan_le : (free : ℕ → Bool) (k fuel c : ℕ) → c ≤ k → scan free k fuel c ≤ k
unfolding scan
scan_le free k zero c h = h
scan_le free k (suc fuel) c h =
    by_bool (free (next_colour k c))
    (λ e. rw e (up_le k c))
    (λ e. rw e (scan_le free k fuel (next_colour k c) (up_le k c)))

pub scan_free : (free : ℕ → Bool) (k fuel c j : ℕ) → j < fuel → free (ups k (suc j) c) ≡ true → free (scan free k fuel c) ≡ true
unfolding scan ups
scan_free free k zero c j h e = absurd (not-suc-le-zero h)
scan_free free k (suc fuel) c zero h e = rw e e
scan_free free k (suc fuel) c (suc j) h e =
    by_bool (free (next_colour k c))
    (λ f. rw f f)
    (λ f. rw f (scan_free free k fuel (next_colour k c) j (le_of_suc-le-suc h) e))

-- What a free colour is.
pub free_i : (g : Gate) (x : ℕ) → get_or g.counts x 0 ≡ 0 → x ≢ col g.issue → x ≢ col g.valid → free_colour g x ≡ true
unfolding free_colour
free_i g x e i v = simp (eq-eqb _ _ e, ne_eqb _ _ i, ne_eqb _ _ v)

pub free_use : (g : Gate) (x : ℕ) → free_colour g x ≡ true → (get_or g.counts x 0 ≡ 0) × (x ≢ col g.issue) × (x ≢ col g.valid)
unfolding free_colour
free_use g x e =
    let a = and_l (eqb (get_or g.counts x 0) 0 && not (eqb x (col g.issue))) (not (eqb x (col g.valid))) e in (
      eqb-true _ _ (and_l _ _ a),
      eqb-false _ _ (not-true _ (and_r (eqb (get_or g.counts x 0) 0) _ a)),
      eqb-false _ _ (not-true _ (and_r (eqb (get_or g.counts x 0) 0 && not (eqb x (col g.issue))) _ e)),
    )

-- The new colour of a word whose colour is that of both words: the counts add up to k, and that colour's count is above 0.
pub new_colour_lem : (g : Gate) (c : ℕ) → col g.issue ≡ c → col g.valid ≡ c → c ≤ g.k → sum_below (λ j. get_or g.counts j 0) (suc g.k) ≡ g.k → 0 < get_or g.counts c 0 → (free_colour g (new_colour g c) ≡ true) × (new_colour g c ≤ g.k)
unfolding new_colour
new_colour_lem g c i v h s p =
    let q = pigeon (λ j. get_or g.counts j 0) g.k c s p in
    let r = reach g.k c q.0 h q.1 q.3 in (
      scan_free (free_colour g) g.k g.k c r.0 r.1 (ap (free_colour g) r.2 ∙ free_i g q.0 q.2 (λ e. q.3 (e ∙ i)) (λ e. q.3 (e ∙ v))),
      scan_le (free_colour g) g.k g.k c h,
    )
