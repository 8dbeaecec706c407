-- The slots that have been met, at a plugin inside or in the free row, as the code notes them.
use Rattle.std.specs.Prelude.{ℕ, ◌+◌, ◌-◌, ◌<◌, ◌≤◌, ◌≡◌, Bool, true, ◌&&◌, List, ◌≢◌, get_or, length, eqb, leb}
use Rattle.std.specs.Int.{bit_at}
use Rattle.model.specs.Lists.{count, one_if}

-- How often the slot s has been met: its bit, s - 1.
abbrev pub times_met : ℕ → ℕ → ℕ
times_met met s = bit_at met (s - 1)

-- The slot s of the slots 1 to k has been met as often as f says, none twice. The slots above k count as met.
pub record Table (k met : ℕ) (f : ℕ → ℕ) : Type 0 where
  pub few : k ≤ 64
  pub times : (s : ℕ) → 1 ≤ s → s ≤ k → times_met met s ≡ f s
  pub above : (s : ℕ) → k < s → s ≤ 64 → times_met met s ≡ 1

-- What is answered to a slot, b, and what has been met after it: it is noted if it is a slot that has not been met.
pub record Noted (slot met : ℕ) (b : Bool) (met' : ℕ) : Type 0 where
  pub new : b ≡ (leb 1 slot && leb slot 64 && eqb (times_met met slot) 0)
  pub noted : b ≡ true → (s : ℕ) → 1 ≤ s → times_met met' s ≡ times_met met s + one_if (eqb slot s)

-- The same of a record's slot: a plugin that is not inside is to have none.
pub record NotedOf (region slot met : ℕ) (b : Bool) (met' : ℕ) : Type 0 where
  pub inside : region ≡ 2 → Noted slot met b met'
  pub outside : region ≢ 2 → (b ≡ eqb slot 0) × (met' ≡ met)

-- A row of slots from 1 to k, none of which is met twice, where each had been met as often as f says.
pub record RowRight (k : ℕ) (f : ℕ → ℕ) (row : List ℕ) : Type 0 where
  pub slots : (j : ℕ) → j < length row → (1 ≤ get_or row j 0) × (get_or row j 0 ≤ k)
  pub once : (s : ℕ) → 1 ≤ s → s ≤ k → count (λ x. eqb x s) row + f s ≤ 1

-- What is answered to a row, b, and what has been met after it.
pub record RowNoted (k : ℕ) (f : ℕ → ℕ) (row : List ℕ) (b : Bool) (met' : ℕ) : Type 0 where
  pub right : b ≡ true → RowRight k f row × Table k met' (λ s. count (λ x. eqb x s) row + f s)
  pub heeds : RowRight k f row → b ≡ true

-- What is answered to whether each slot has been met.
pub record AllMet (met : ℕ) (b : Bool) : Type 0 where
  pub each : b ≡ true → (s : ℕ) → 1 ≤ s → s ≤ 64 → times_met met s ≡ 1
  pub heeds : ((s : ℕ) → 1 ≤ s → s ≤ 64 → times_met met s ≡ 1) → b ≡ true
