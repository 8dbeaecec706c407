-- 1979's block fits where there is a slot, and fewer slots than plugins.
use Prim.Native.Nat.{ℕ, ◌<◌, ◌≤◌}
use native.Mathlib.Omega.{arith}
use Rattle.model.specs.Steps.{Fits, block1979}

pub fits_1979 : (n k : ℕ) → 1 ≤ k → k < n → Fits (block1979 n) n k
unfolding block1979
fits_1979 n k slot below = record { above_k = below; above_rest = omega arith }
