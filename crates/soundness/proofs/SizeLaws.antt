-- Other held tickets, kept, lie in few bytes.
--
-- Main statement: `few_bytes`.
use Prim.Native.Nat.{ℕ, ◌%◌, ◌+◌, ◌-◌, ◌*◌, ◌<◌, ◌≤◌}
use native.Mathlib.Nat.{mod-lt}
use native.Mathlib.Omega.{arith}
use prog.Memory.{up}

up_less : (a n : ℕ) → 0 < a → up a n < n + a
up_less a n h = omega (arith, mod-lt (a - n % a) {m = a} h)

-- Room for the codes, their number, and the residues.
pub few_bytes : (room residues : ℕ) → room ≤ 64 → residues ≤ 256
    → up 8 (up 1 (0 + up 8 (up 1 (up 8 (0 + up 4 (0 + room * 4)) + 8) + 0)) + residues * 1) < 9223372036854775808
few_bytes room residues h k =
    let codes = up 4 (0 + room * 4) in
    let numbered = up 8 (0 + codes) + 8 in
    let first = up 8 (up 1 numbered + 0) in
    omega (
      arith,
      h,
      k,
      up_less 4 (0 + room * 4) (omega arith),
      up_less 8 (0 + codes) (omega arith),
      up_less 1 numbered (omega arith),
      up_less 8 (up 1 numbered + 0) (omega arith),
      up_less 1 (0 + first) (omega arith),
      up_less 8 (up 1 (0 + first) + residues * 1) (omega arith),
    )
