-- A slice that is filled from its front, an element for each answer.
--
-- Main statements: `filling_starts`, `filling_next`, `filling_done`.
use Prim.Native.Nat.{ℕ, ◌+◌, ◌<◌}
use mathlib.Core.Path.{ap, ap₂, refl, sym, ◌∙◌, ◌≡◌}
use mathlib.Core.List.{List, [], append_assoc, append-nil, map, ◌++◌, ◌∷◌}
use native.Mathlib.Numerals.{add-one}
use native.Mathlib.Omega.{arith}
use lib.ListN.{drop, length, length-map, length-set, set, take, take-append-drop}
use lib.Seq.{drop-drop, drop-set-lt, take-suc-set}
use Rattle.model.specs.Refusals.{Answered}
use Rattle.results.specs.Results.{over}

-- The first i elements of xs are what f gives for the answers so far, those of all less those left; the others stand as in old.
pub record Filling (f : Answered → ℕ) (old xs : List ℕ) (i : ℕ) (left all : List Answered) : Type 0 where
  pub front : take i xs ++ map f left ≡ map f all
  pub back : drop i xs ≡ drop i old
  pub size : length xs ≡ length old

module _ (f : Answered → ℕ) (old : List ℕ) where
  pub filling_starts : (all : List Answered) → Filling f old old 0 all all
  filling_starts all = record { front = refl; back = refl; size = refl }

  pub filling_next : (xs : List ℕ) (i : ℕ) (a : Answered) (left all : List Answered) → i < length xs → Filling f old xs i (a ∷ left) all
      → Filling f old (set xs i (f a)) (i + 1) left all
  filling_next xs i a left all h e = record {
    front = rw (add-one, take-suc-set, append_assoc) e.front;
    back = drop-set-lt (i + 1) xs i (f a) (omega arith) ∙ sym (drop-drop 1 i xs) ∙ ap (drop 1) e.back ∙ drop-drop 1 i old;
    size = length-set xs i (f a) ∙ e.size;
  }

  pub filling_done : (xs : List ℕ) (i : ℕ) (all : List Answered) → length all ≡ i → Filling f old xs i [] all → xs ≡ over (map f all) old
  filling_done xs i all n e =
      sym (take-append-drop i xs)
      ∙ ap₂ (λ (a b : List ℕ). a ++ b) (sym (append-nil (take i xs)) ∙ e.front) (e.back ∙ ap (λ (j : ℕ). drop j old) (sym (length-map all f ∙ n)))
