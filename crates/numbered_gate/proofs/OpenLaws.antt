-- The slices of a new gate's list.
use Prim.Native.Nat.{ℕ}
use mathlib.Core.Path.{◌≡◌}
use lib.ListN.{replicate}
use lib.LanesLaws.{map-replicate}
use Rattle.numbered.specs.declared.NumberedRecord.{NumberedRecord}
use Rattle.numbered.specs.Calls.{idle_numbered}
use Rattle.numbered.specs.Slices.{numbered_lent, numbered_lent_of}

-- The slices of n idle records.
pub idle_lent : (n : ℕ) → numbered_lent_of (replicate n idle_numbered) ≡ numbered_lent (replicate n 0) (replicate n 0) (replicate n 0)
idle_lent n =
    λ j. numbered_lent (map-replicate (λ (r : NumberedRecord). r.region) n idle_numbered j) (map-replicate (λ (r : NumberedRecord). r.mark) n idle_numbered j)
    (map-replicate (λ (r : NumberedRecord). r.ticket) n idle_numbered j)
