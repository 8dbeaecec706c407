-- The counts: how many spare places have a colour, in closed form, and what each return of `subtract_spare` shows.
--
-- Main statements: `spare_count` (of the places after ISSUE up to VALID, those in ISSUE's block have ISSUE's colour, the others VALID's),
-- `less_both` (the counts less their spare places are what the bins have, just when each count is right).
use Prim.Native.Nat.{suc, zero, ℕ, ◌+◌, ◌-◌, ◌<◌, ◌≤◌}
use mathlib.Core.Path.{ap, refl, sym, ◌∙◌, ◌≡◌}
use mathlib.Core.Bool.{Bool, cond, false, true≢false}
use mathlib.Core.List.{List, [], ◌∷◌}
use native.Mathlib.Omega.{arith}
use lib.ListN.{get_or, set}
use lib.Seq.{get_or-set_other}
use lib.Dec.{eqb}
use borrow.Author.Tests.{eq-eqb, eqb-true, ne_eqb}
use Rattle.model.specs.declared.Ticket.{Ticket}
use Rattle.ranges.specs.declared.lead.Lead.{Lead}
use Rattle.model.specs.Lists.{all_below, count}
use Rattle.model.specs.Sound.{places}
use Rattle.model.specs.Steps.{Block, col, ticket, val}
use Rattle.ranges.specs.Lead.{LeadBounds, lead_block}
use Rattle.tally.specs.Counts.{bin_is, count_is, count_sum, count_test, spare_within}
use Rattle.model.proofs.Blocks.{next_within, next_wraps}
use Rattle.model.proofs.Counting.{below_same}
use Rattle.model.proofs.Logic.{bool_ext, by_bool, by_eq, by_lt}
use Rattle.model.proofs.Counting.{below_at}
use Rattle.ranges.proofs.Tests.{answer_no}

-- The places of the colour d among the n places after u, within u's block ..
colour_within : (b : Block) (c d : ℕ) (u : Ticket) (n : ℕ) → val u + n < b.first + b.size
    → count (λ t. eqb (col t) d) (places b c u n) ≡ cond (eqb (col u) d) n 0
unfolding places count
colour_within b c d u zero h = by_bool (eqb (col u) d) (λ e. simp e) (λ e. simp e)
colour_within b c d u (suc n) h =
    rw (next_within b c u (omega arith))
    (let ih = colour_within b c d (ticket (val u + 1) (col u)) n (omega arith) in
    by_bool (eqb (col u) d) (λ e. simp e (omega (arith, simp e at ih))) (λ e. simp e (omega (arith, simp e at ih))))

-- .. and past its end, where `room` places are left in it.
colour_beyond : (b : Block) (c d : ℕ) (u : Ticket) (n room : ℕ) → val u + 1 + room ≡ b.first + b.size → room ≤ n → n - room < b.size
    → count (λ t. eqb (col t) d) (places b c u n) ≡ cond (eqb (col u) d) room 0 + cond (eqb c d) (n - room) 0
unfolding places count
colour_beyond b c d u zero zero h g l =
    by_bool (eqb (col u) d)
    (λ e. by_bool (eqb c d) (λ f. simp (e, f)) (λ f. simp (e, f)))
    (λ e. by_bool (eqb c d) (λ f. simp (e, f)) (λ f. simp (e, f)))
colour_beyond b c d u zero (suc room) h g l = absurd (omega arith)
colour_beyond b c d u (suc n) zero h g l =
    rw (next_wraps b c u (omega arith))
    (let ih = colour_within b c d (ticket b.first c) n (omega arith) in
    by_bool (eqb (col u) d)
    (λ e. by_bool (eqb c d) (λ f. simp (e, f) (omega (arith, simp f at ih))) (λ f. simp (e, f) (omega (arith, simp f at ih))))
    (λ e. by_bool (eqb c d) (λ f. simp (e, f) (omega (arith, simp f at ih))) (λ f. simp (e, f) (omega (arith, simp f at ih)))))
colour_beyond b c d u (suc n) (suc room) h g l =
    rw (next_within b c u (omega arith))
    (let ih = colour_beyond b c d (ticket (val u + 1) (col u)) n room (omega arith) (omega arith) (omega arith) in
    by_bool (eqb (col u) d)
    (λ e. by_bool (eqb c d) (λ f. simp (e, f) (omega (arith, simp (e, f) at ih))) (λ f. simp (e, f) (omega (arith, simp (e, f) at ih))))
    (λ e. by_bool (eqb c d) (λ f. simp (e, f) (omega (arith, simp (e, f) at ih))) (λ f. simp (e, f) (omega (arith, simp (e, f) at ih)))))

-- How many spare places are in ISSUE's block.
pub within_all : (w : Lead) → w.ahead ≤ w.first + w.size - 1 - val w.issue → spare_within w ≡ w.ahead
unfolding spare_within
within_all w h = omega arith

pub within_room : (w : Lead) → w.first + w.size - 1 - val w.issue ≤ w.ahead → spare_within w ≡ w.first + w.size - 1 - val w.issue
unfolding spare_within
within_room w h = omega arith

pub spare_count : (w : Lead) (d : ℕ) → val w.issue < w.first + w.size → w.ahead < w.size
    → count (λ t. eqb (col t) d) (places (lead_block w) (col w.valid) w.issue w.ahead)
    ≡ cond (eqb (col w.issue) d) (spare_within w) 0 + cond (eqb (col w.valid) d) (w.ahead - spare_within w) 0
spare_count w d h l =
    by_lt (val w.issue + w.ahead) (w.first + w.size)
    (λ q.
    let f : spare_within w ≡ w.ahead = within_all w (omega arith) in
    let z : w.ahead - spare_within w ≡ 0 = omega arith in
    colour_within (lead_block w) (col w.valid) d w.issue w.ahead (omega arith)
    ∙ rw (z, f) (by_bool (eqb (col w.issue) d)
    (λ e. by_bool (eqb (col w.valid) d) (λ g. simp (e, g) (omega arith)) (λ g. simp (e, g) (omega arith)))
    (λ e. by_bool (eqb (col w.valid) d) (λ g. simp (e, g) (omega arith)) (λ g. simp (e, g) (omega arith)))))
    (λ q.
    let f : spare_within w ≡ w.first + w.size - 1 - val w.issue = within_room w (omega arith) in
    colour_beyond (lead_block w) (col w.valid) d w.issue w.ahead (spare_within w) (omega arith) (omega arith) (omega arith))

-- A number of a list made less by x. Past the list's end both sides are 0, so that no length is asked.
less_same : (l : List ℕ) (i x y : ℕ) → y ≡ get_or l i 0 - x → get_or (set l i y) i 0 ≡ get_or l i 0 - x
less_same [] i x y e = omega arith
less_same (z ∷ l) zero x y e = e
less_same (z ∷ l) (suc i) x y e = less_same l i x y e

less_at : (l : List ℕ) (i x y c : ℕ) → y ≡ get_or l i 0 - x → get_or (set l i y) c 0 ≡ get_or l c 0 - cond (eqb i c) x 0
less_at l i x y c h =
    by_eq i c
    (λ e.
    let p : cond (eqb i c) x 0 ≡ x = simp (eq-eqb i c e) in
    ap (λ (z : ℕ). get_or (set l i y) z 0) (sym e) ∙ less_same l i x y h ∙ omega (arith, p, ap (λ (z : ℕ). get_or l z 0) e))
    (λ n.
    let p : cond (eqb i c) x 0 ≡ 0 = simp (ne_eqb i c n) in
    get_or-set_other l i c y 0 (λ z. n (sym z)) ∙ omega (arith, p))

-- Numbers tested one after another, up to n, of which one fails.
below_fails : (p : ℕ → Bool) (n i : ℕ) → i < n → p i ≡ false → false ≡ all_below p n
below_fails p n i h e = answer_no _ (λ q. true≢false (sym (below_at p n q i h) ∙ e))

-- x at the place i, and 0 elsewhere, is no more than the list has at i.
part_most : (l : List ℕ) (i x c : ℕ) → x ≤ get_or l i 0 → cond (eqb i c) x 0 ≤ get_or l c 0
part_most l i x c h =
    by_eq i c
    (λ e. let p : cond (eqb i c) x 0 ≡ x = simp (eq-eqb i c e) in omega (arith, p, ap (λ (y : ℕ). get_or l y 0) e))
    (λ n. let p : cond (eqb i c) x 0 ≡ 0 = simp (ne_eqb i c n) in omega (arith, p))

part_own : (i x : ℕ) → cond (eqb i i) x 0 ≡ x
part_own i x = simp (eq-eqb i i refl)

-- The counts less the spare places: first those in ISSUE's block, then those in VALID's, i and v the words' colours. A law for each return of
-- `subtract_spare`.
module _ (w : Lead) (cs : List ℕ) {within i v : ℕ} (ew : within ≡ spare_within w) (ei : i ≡ col w.issue) (ev : v ≡ col w.valid) where
  abbrev far : ℕ
  far = w.ahead - within

  test_is : (s : List ℕ) → all_below (count_test i within v far cs s) 65 ≡ all_below (count_is w cs s) 65
  test_is s = rw (ew, ei, ev)

  -- A count has too few, so that it is wrong, whatever the bins have.
  pub near_short : LeadBounds w → (within ≤ get_or cs i 0 → ⊥) → (s : List ℕ) → false ≡ all_below (count_is w cs s) 65
  unfolding count_test
  near_short h l s =
      below_fails (count_test i within v far cs s) 65 i (omega (arith, ei, h.issue_colour, h.k_most))
      (ne_eqb (get_or cs i 0) (count_sum i within v far s i) (λ e. l (omega (arith, e, part_own i within)))) ∙ test_is s

  module _ {a : ℕ} (ea : (within ≤ get_or cs i 0) × (a ≡ get_or cs i 0 - within)) where
    pub far_short : LeadBounds w → (far ≤ get_or (set cs i a) v 0 → ⊥) → (s : List ℕ) → false ≡ all_below (count_is w cs s) 65
    unfolding count_test
    far_short h l s =
        below_fails (count_test i within v far cs s) 65 v (omega (arith, ev, h.valid_colour, h.k_most))
        (ne_eqb (get_or cs v 0) (count_sum i within v far s v) (λ e. l (omega (arith, e, part_own v far, less_at cs i within a v ea.1)))) ∙ test_is s

    pub less_both : {b : ℕ} → (far ≤ get_or (set cs i a) v 0) × (b ≡ get_or (set cs i a) v 0 - far) → (s : List ℕ)
        → all_below (bin_is (set (set cs i a) v b) s) 65 ≡ all_below (count_is w cs s) 65
    unfolding count_test bin_is
    less_both {b} eb s =
        let left = set (set cs i a) v b in
        below_same (bin_is left s) (count_test i within v far cs s) 65 (λ c h.
        let m = part_most cs i within c ea.0 in
        let n = part_most (set cs i a) v far c eb.0 in
        let x = less_at cs i within a c ea.1 in
        let y = less_at (set cs i a) v far b c eb.1 in
        bool_ext (bin_is left s c) (count_test i within v far cs s c)
        (λ q. eq-eqb (get_or cs c 0) (count_sum i within v far s c) (omega (arith, m, n, x, y, eqb-true (get_or left c 0) (get_or s c 0) q)))
        (λ q. eq-eqb (get_or left c 0) (get_or s c 0) (omega (arith, m, n, x, y, eqb-true (get_or cs c 0) (count_sum i within v far s c) q)))) ∙ test_is s
