-- Laws of lists of letters: which bytes name a call, and the calls that letters and plugin numbers make.
use Rattle.std.proofs.Common.{◌≡◌, ℕ, zero, suc, ◌+◌, ◌<◌, ◌≤◌, Bool, ◌&&◌, List, [], ◌∷◌, add-one, ap, arith, drop, drop_of_length-le, get_or, length, refl}
use mathlib.Core.List.{tail}
use Rattle.std.specs.List.{list_all}
use Rattle.std.specs.Result.{is_ok}
use native.Mathlib.Nat.{le_of_suc-le-suc, not-suc-le-zero}
use Rattle.model.specs.Calls.{step}
use Rattle.model.specs.Letters.{is_letter, letter_call, named_call, steps_of}
use Rattle.model.specs.Lists.{all}
use Rattle.model.proofs.Logic.{by_bool}

-- A byte names a call where its conversion is not refused.
pub named_is_ok : (b : ℕ) → is_ok (named_call b) ≡ is_letter b
named_is_ok b = by_bool (is_letter b) (λ e. rw e refl) (λ e. rw e refl)

pub all_of_list : (p : ℕ → Bool) (xs : List ℕ) → list_all p xs ≡ all p xs
unfolding all
all_of_list p [] = refl
all_of_list p (x ∷ xs) = ap (λ (b : Bool). p x && b) (all_of_list p xs)

-- As many calls as letters.
pub length_steps : (bs ps : List ℕ) → length (steps_of bs ps) ≡ length bs
unfolding steps_of
length_steps [] ps = refl
length_steps (b ∷ bs) ps = ap suc (length_steps bs (tail ps))

-- The calls from i on begin with letter i and plugin number i.
steps_from : (bs ps : List ℕ) (i : ℕ) → i < length bs → drop i (steps_of bs ps) ≡ step (letter_call (get_or bs i 0)) (get_or ps i 0) ∷ drop (suc i) (steps_of bs ps)
unfolding steps_of
steps_from [] ps i h = absurd (not-suc-le-zero h)
steps_from (b ∷ bs) ps zero h = refl
steps_from (b ∷ bs) [] (suc i) h = steps_from bs [] i (le_of_suc-le-suc h)
steps_from (b ∷ bs) (p ∷ ps) (suc i) h = steps_from bs ps i (le_of_suc-le-suc h)

pub steps_at : (bs ps : List ℕ) (i : ℕ) → i < length bs → drop i (steps_of bs ps) ≡ step (letter_call (get_or bs i 0)) (get_or ps i 0) ∷ drop (i + 1) (steps_of bs ps)
steps_at bs ps i h = rw add-one (steps_from bs ps i h)

pub steps_end : (bs ps : List ℕ) (i : ℕ) → length bs ≤ i → drop i (steps_of bs ps) ≡ []
steps_end bs ps i h = drop_of_length-le (steps_of bs ps) {i = i} (omega (arith, length_steps bs ps))
