-- What `begins` found, on whatever gate.
use Prim.Native.Nat.{ℕ, ◌-◌, ◌<◌}
use mathlib.Core.Path.{◌≡◌}
use mathlib.Core.Bool.{Bool, false, true, ◌||◌}
use native.Mathlib.Omega.{arith}
use lib.Dec.{eqb, ltb}
use Rattle.std.proofs.Common.{Ok}
use Rattle.begin.specs.Begin.{begins}

-- The list has the length N or not (long), and it is sound with the words or not (sound).
module _ (long sound : Bool) (n p : ℕ) where
  -- The place of plugin p: no refusal 2, 3 or 4 came.
  pub record Found (at : ℕ) : Type 0 where
    pub has_length : long ≡ true
    pub is_sound : sound ≡ true
    pub in_range : (eqb p 0 || ltb n p) ≡ false
    pub at_is : at ≡ p - 1
    pub below : at < n

  pub found_place : (at : ℕ) → Ok at ≡ begins long sound n p → Found at
  unfolding begins
  found_place at q = grind arith
