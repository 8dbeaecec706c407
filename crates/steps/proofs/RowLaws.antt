-- Laws of the row of free slots, over plain lists.
use Rattle.std.proofs.Common.{◌≡◌, ℕ, zero, suc, ◌+◌, ◌-◌, ◌≤◌, ◌<◌, List, [], ◌∷◌, ◌++◌, length, get_or, take, drop, set, replicate, refl, sym, ap, ◌∙◌, arith, eqb, cond, add-one, add-zero, ltb, Some, None, append_assoc, length-append, length-drop}
use Rattle.std.proofs.lemmas.List.{ext_get_or, length-take-le, drop-replicate, length-replicate}
use Rattle.std.specs.List.{position}
use Rattle.std.specs.Option.{unwrap_or}
use lib.Seq.{set_at}
use borrow.Author.Tests.{le-ltb, lt-ltb}
use Rattle.std.proofs.lemmas.Grind.{common_steps}
use Rattle.model.specs.Calls.{free_row, free_slots, moved_up}
use Rattle.model.specs.Lists.{numbers_from}
use Rattle.model.proofs.Logic.{by_bool, by_lt}
use Rattle.model.proofs.Rows.{numbers_length}
use Rattle.model.proofs.SlotLaws.{up_drop}

-- One number more, at the end.
numbers_snoc : (p n : ℕ) → numbers_from p (n + 1) ≡ numbers_from p n ++ ((p + n) ∷ [])
unfolding numbers_from
numbers_snoc p zero = simp add-zero
numbers_snoc p (suc n) =
    let e : suc p + n ≡ p + suc n = omega arith in
    let rest : numbers_from (suc p) (suc n) ≡ numbers_from (suc p) n ++ ((suc p + n) ∷ []) = ap (numbers_from (suc p)) (sym (add-one n)) ∙ numbers_snoc (suc p) n in
    ap (numbers_from p) (add-one (suc n)) ∙ ap (λ (t : List ℕ). p ∷ t) (rest ∙ ap (λ (x : ℕ). numbers_from (suc p) n ++ (x ∷ [])) e)

-- One slot more in the row at opening.
pub row_next : (i : ℕ) → i < 64 → set (free_row (numbers_from 1 i)) i (i + 1) ≡ free_row (numbers_from 1 (i + 1))
row_next i h =
    let at : length (numbers_from 1 i) ≡ i = numbers_length 1 i in
    let at' : length (numbers_from 1 (i + 1)) ≡ i + 1 = numbers_length 1 (i + 1) in
    let m : 64 - i ≡ suc (64 - (i + 1)) = omega arith in
    let e : 1 + i ≡ i + 1 = omega arith in
    rw (at, at', m, numbers_snoc 1 i, append_assoc, e) (set_at (numbers_from 1 i) 0 (replicate (64 - (i + 1)) 0) (i + 1) i at)

one_later : (p n k : ℕ) → unwrap_or (cond (ltb (1 + p) (suc n)) (Some (1 + p)) None) (suc k) ≡ suc (unwrap_or (cond (ltb p n) (Some p) None) k)
one_later p n k =
    by_lt p n
    (λ h. rw (lt-ltb p n h, lt-ltb (1 + p) (suc n) (omega arith)) (omega arith))
    (λ h. rw (le-ltb p n h, le-ltb (1 + p) (suc n) (omega arith)) refl)

-- The first 0 among the first k places, or k if there is none.
pub first_empty : (free : List ℕ) (k : ℕ) → k ≤ length free → length (free_slots free) ≤ k → unwrap_or (position (λ (s : ℕ). eqb s 0) (take k free)) k ≡ length (free_slots free)
unfolding free_slots
first_empty [] k h n = grind arith
first_empty (s ∷ free) zero h n = grind arith
first_empty (s ∷ free) (suc k) h n =
    by_bool (eqb s 0)
    (λ e. rw (e, lt-ltb 0 (suc (length (take k free))) (omega arith)) refl)
    (λ e. rw e (one_later _ _ k ∙ ap suc (first_empty free k (omega arith) (omega (arith, rw e at n)))))

-- What stands behind the first of the first k places, and zeros, is the row moved up.
pub row_moved : (free others copied : List ℕ) (k : ℕ) → length free ≡ 64 → k ≤ 64 → ((j : ℕ) → k ≤ j → get_or free j 0 ≡ 0) → drop 1 (take k free) ≡ others → copied ≡ others
    → copied ++ drop (length others) (replicate 64 0) ≡ moved_up free
row_moved free others copied k l h z e f =
    let t : length (take k free) ≡ k = length-take-le k free (omega arith) in
    let n : length (drop 1 (take k free)) ≡ k - 1 = omega (arith, length-drop 1 (take k free)) in
    let m : length (drop 1 free) ≡ 63 = omega (arith, length-drop 1 free) in
    rw (f, ← e, n, drop-replicate, up_drop free l)
    (ext_get_or 0 _ _ (simp (length-append, length-drop, length-replicate) (omega arith)) (λ i b.
    by_lt i (k - 1) (λ q. grind (arith, common_steps)) (λ q. grind (arith, common_steps, z (i + 1)))))
