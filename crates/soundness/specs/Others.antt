-- The other held tickets, those that are none of the places after VALID, as the code keeps them.
use Rattle.std.specs.Prelude.{ℕ, ◌%◌, ◌*◌, ◌+◌, ◌<◌, ◌≡◌, Bool, false, not, true, List, [], ◌∷◌, ◌++◌, get_or, eqb}
use Rattle.model.specs.Lists.{any}

-- A ticket as one number.
abbrev pub code_of : ℕ → ℕ → ℕ
code_of v c = v * 65 + c

-- `seen` has the remainder by m, the number of residues, of each of the codes: one whose remainder it has not is none of them.
pub record Covers (m : ℕ) (seen : List Bool) (codes : List ℕ) : Type 0 where
  pub some : 0 < m
  pub none : (x : ℕ) → get_or seen (x % m) false ≡ false → any (λ y. eqb y x) codes ≡ false

-- What is answered to one code more, x, and the codes after it: it is added if it is not there.
pub record Inserted (x : ℕ) (codes : List ℕ) (b : Bool) (codes' : List ℕ) : Type 0 where
  pub new : b ≡ not (any (λ y. eqb y x) codes)
  pub added : b ≡ true → codes' ≡ codes ++ x ∷ []
  pub kept : b ≡ false → codes' ≡ codes
