-- Tests that read a list to its end.
use Prim.Native.Nat.{ℕ, ◌<◌, ◌≤◌}
use mathlib.Core.Path.{ap, sym, ◌∙◌, ◌≡◌}
use mathlib.Core.Bool.{Bool, ◌&&◌}
use mathlib.Core.List.{List, [], ◌++◌, ◌∷◌}
use native.Mathlib.Omega.{arith}
use lib.ListN.{get_or, length}
use lib.Dec.{eqb}
use Rattle.std.specs.List.{zip}
use Rattle.std.proofs.lemmas.Slice.Zip.{get_or-zip, length-zip}
use Rattle.model.specs.Lists.{all, all_below}
use Rattle.model.proofs.Counting.{all_at, all_i, below_at, below_i}
use Rattle.model.proofs.Logic.{bool_ext, by_bool}
use Rattle.tally.specs.Counts.{bin_is}

pub all_snoc : {A : Type 0} (p : A → Bool) (l : List A) (x : A) → all p (l ++ (x ∷ [])) ≡ (all p l && p x)
unfolding all
all_snoc p [] x = by_bool (p x) (λ e. simp e) (λ e. simp e)
all_snoc p (y ∷ l) x = by_bool (p y) (λ e. simp e (all_snoc p l x)) (λ e. simp e)

-- Two lists, element by element.
pub all_bins : (left bins : List ℕ) → length left ≡ 65 → 65 ≤ length bins
    → all (λ x. eqb x.0 x.1) (zip left bins) ≡ all_below (bin_is left bins) 65
unfolding bin_is
all_bins left bins a b =
    let same : ℕ × ℕ → Bool = λ x. eqb x.0 x.1 in
    let at : (c : ℕ) → c < 65 → same (get_or (zip left bins) c (0, 0)) ≡ bin_is left bins c =
    λ c h. ap same (get_or-zip left bins c (0, 0) (omega arith) (omega arith)) in
    let n : length (zip left bins) ≡ 65 = omega (arith, length-zip left bins) in
    bool_ext (all same (zip left bins)) (all_below (bin_is left bins) 65)
    (λ e. below_i _ 65 (λ c h. sym (at c h) ∙ all_at same (zip left bins) (0, 0) e c (omega arith)))
    (λ e. all_i same (zip left bins) (0, 0) (λ c h. at c (omega arith) ∙ below_at _ 65 e c (omega arith)))
