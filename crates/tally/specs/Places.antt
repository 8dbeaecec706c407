-- Places in a block of m places, from any first value on.
use Rattle.std.specs.Prelude.{ℕ, ◌+◌, ◌-◌, ◌<◌, cond, ltb}
use Rattle.model.specs.declared.Ticket.{Ticket}
use Rattle.model.specs.Steps.{InBlock, col, val}
use Rattle.ranges.specs.Range.{block_from}

-- How many places the value t lies after the value u, in a block of m places.
unfoldable pub places_after : ℕ → ℕ → ℕ → ℕ
places_after m u t = cond (ltb u t) (t - u) (t + m - u)

-- The colour of the place that has the value t, among fewer than m places after u: u's own in u's block, and then c.
unfoldable pub place_colour : ℕ → Ticket → ℕ → ℕ
place_colour t u c = cond (ltb (val u) t) (col u) c

-- What the test of places is asked of: both tickets are in the block of m values from f on, and the n places do not go round it.
pub record PlaceAsks (f : ℕ) (t u : Ticket) (n m : ℕ) : Type 0 where
  pub word_in : InBlock (block_from f m) u
  pub ticket_in : InBlock (block_from f m) t
  pub few : n < m
