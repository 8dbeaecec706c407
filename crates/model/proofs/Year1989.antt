-- 1989's block fits, whatever N and k are.
use Prim.Native.Nat.{ℕ}
use native.Mathlib.Omega.{arith}
use Rattle.model.specs.Steps.{Fits, block, block_size}

pub fits_1989 : (n k : ℕ) → Fits (block n k) n k
unfolding block block_size
fits_1989 n k = record { above_k = omega arith; above_rest = omega arith }
