-- Laws of blocks, distances and the scan for a colour, over plain values, that the functions' proofs use.
use Prim.Native.Nat.{ℕ, zero, suc, ◌+◌, ◌-◌, ◌≤◌, ◌<◌}
use mathlib.Core.Path.{◌≡◌, refl, sym}
use mathlib.Core.Bool.{Bool, cond}
use native.Mathlib.Omega.{arith}
use native.Mathlib.Nat.{mod-lt, not-suc-le-zero}
use lib.Dec.{eqb}
use Rattle.model.specs.declared.Gate.{Gate}
use Rattle.model.specs.declared.Ticket.{Ticket}
use Rattle.model.specs.Steps.{val, block_size, block, block1979, year_block, block_of, next_colour, scan, distance_in, InBlock}
use Rattle.model.proofs.Blocks.{distance_onward, distance_around}
use Rattle.model.proofs.Logic.{by_bool}

-- A block has a last value, which fits in 16 bits, as N does.
pub block_some : (year n k : ℕ) → 1 ≤ (year_block year n k).first + (year_block year n k).size
unfolding year_block block1979 block block_size
block_some year n k = by_bool (eqb year 1979) (λ y. rw y (omega arith)) (λ y. rw y (omega arith))

pub block_fits : (year n k : ℕ) → n < 65536 → k < 256 → (year_block year n k).first + (year_block year n k).size ≤ 65536
unfolding year_block block1979 block block_size
block_fits year n k hn hk = by_bool (eqb year 1979) (λ y. rw y (omega arith)) (λ y. rw y (omega arith))

-- A turn of the scan for a free colour.
pub scan_next : (free : ℕ → Bool) (k left at : ℕ) → 0 < left → scan free k left at ≡ cond (free (next_colour k at)) (next_colour k at) (scan free k (left - 1) (next_colour k at))
unfolding scan
scan_next free k zero at h = absurd (not-suc-le-zero h)
scan_next free k (suc left) at h = let n : left ≡ suc left - 1 = omega arith in rw (← n) refl

-- A ticket against VALID.
pub distance_up : (g : Gate) (t : Ticket) → InBlock (block_of g) t → InBlock (block_of g) g.valid → val g.valid ≤ val t
    → distance_in (block_of g) g t ≡ val t - val g.valid
distance_up g t i j h = sym (distance_onward (block_of g) g t i j h)

pub distance_round : (g : Gate) (t : Ticket) → InBlock (block_of g) t → InBlock (block_of g) g.valid → val t < val g.valid
    → distance_in (block_of g) g t ≡ val t + (block_of g).size - val g.valid
distance_round g t i j h = sym (distance_around (block_of g) g t i j h)

-- A distance is below the block size, so it fits in 16 bits.
pub distance_fits : (g : Gate) (t : Ticket) → g.n < 65536 → g.k < 256 → InBlock (block_of g) g.valid → distance_in (block_of g) g t < 65536
unfolding distance_in
distance_fits g t n k j =
    omega (
      arith,
      mod-lt (val t + (block_of g).size - val g.valid) {m = (block_of g).size} (omega (arith, j.low, j.high)),
      block_fits g.year g.n g.k n k,
    )
