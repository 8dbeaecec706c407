-- Where an iterator over letters, plugin numbers and their index stands.
--
-- Main statements: `at_next` (what it gives at the place i), `at_end`.
use Rattle.std.proofs.Common.{◌≡◌, ℕ, ◌+◌, ◌<◌, ◌≤◌, Iter, List, ◌∷◌, None, Option, Some, ap, arith, drop, get_or, length, length-drop, refl, sym, ◌∙◌}
use Rattle.std.specs.declared.iter.Enumerate.{Enumerate}
use Rattle.std.specs.declared.iter.Zip.{Zip}
use Rattle.std.specs.Iterator.Adapters.{enumerate_steps}
use Rattle.std.proofs.iter.Yields.{fronts}
use Rattle.std.proofs.lemmas.Iterator.{zips}
use Rattle.std.proofs.lemmas.Slice.Zip.{Zip-more, either_empty_from_Zip}
use Rattle.std.proofs.lemmas.List.{get_or-drop}
use denote.Bor.{Bor}
use lib.Seq.{drop-drop}
use mathlib.Core.Path.{subst}
use mathlib.Core.Logic.{⊎_elim}

abbrev Places : Type 0
Places = Enumerate (Zip (Iter ℕ) (Iter ℕ))

pub record At (bs ps : List ℕ) (i : ℕ) (s : Places) : Type 0 where
  pub within : i ≤ length bs
  pub index : s.count ≡ i
  pub letters : s.iter.a.rest.now ≡ drop i bs
  pub numbers : s.iter.b.rest.now ≡ drop i ps

-- What is given at the place i.
pub record Gives (bs ps : List ℕ) (i : ℕ) (x : ℕ × (Bor ℕ × Bor ℕ)) : Type 0 where
  pub index : x.0 ≡ i
  pub within : i < length bs
  pub letter : x.1.0.now ≡ get_or bs i 0
  pub number : x.1.1.now ≡ get_or ps i 0

-- The first element of what is left from i on, and the rest.
front : (xs ys : List ℕ) (x i : ℕ) → drop i xs ≡ x ∷ ys → (i < length xs) × ((x ≡ get_or xs i 0) × (ys ≡ drop (i + 1) xs))
front xs ys x i e =
    let none : i + 0 ≡ i = omega arith in (
      omega (arith, ap length e, length-drop i xs),
      (
        ap (λ (l : List ℕ). get_or l 0 0) (sym e) ∙ get_or-drop i xs 0 0 ∙ ap (λ (n : ℕ). get_or xs n 0) none,
        ap (drop 1) (sym e) ∙ drop-drop 1 i xs,
      ),
    )

module _ (bs ps : List ℕ) (i : ℕ) (s t : Places) (r : Option (ℕ × (Bor ℕ × Bor ℕ))) (a : At bs ps i s) (h : enumerate_steps (zips fronts fronts) s r t) where
  pub at_next : (x : ℕ × (Bor ℕ × Bor ℕ)) → r ≡ Some x → Gives bs ps i x × At bs ps (i + 1) t
  at_next x e =
      let q : enumerate_steps (zips fronts fronts) s (Some x) t = subst (λ o. enumerate_steps (zips fronts fronts) s o t) e h in
      let m = Zip-more s.iter t.iter (Some x.1) x.1 refl q.0 in
      let b = front bs t.iter.a.rest.now x.1.0.now i (sym a.letters ∙ m.0) in
      let p = front ps t.iter.b.rest.now x.1.1.now i (sym a.numbers ∙ m.1) in (
        record { index = q.1 ∙ a.index; within = b.0; letter = b.1.0; number = p.1.0 },
        record { within = omega (arith, b.0); index = q.2 ∙ ap (λ (n : ℕ). n + 1) a.index; letters = b.1.1; numbers = p.1.1 },
      )

  pub at_end : r ≡ None → length bs ≤ length ps → length bs ≤ i
  at_end e w =
      let q : enumerate_steps (zips fronts fronts) s None t = subst (λ o. enumerate_steps (zips fronts fronts) s o t) e h in
      ⊎_elim (λ n. omega (arith, ap length (sym a.letters ∙ n), length-drop i bs)) (λ n. omega (arith, ap length (sym a.numbers ∙ n), length-drop i ps, w))
      (either_empty_from_Zip s.iter t.iter None refl q.0)
