-- What the pass over the list asks of its caller.
use Rattle.std.specs.Prelude.{ℕ, ◌+◌, ◌<◌, ◌≡◌, true, List, get_or, length}
use Rattle.model.specs.declared.Gate.{Gate}
use Rattle.ranges.specs.declared.lead.Lead.{Lead}
use Rattle.model.specs.Sound.{lead_in_range, words_in_range}
use Rattle.ranges.specs.Lead.{lead_of}
use Rattle.tally.specs.Bins.{idle_bin}

-- The words g pass their tests, and w is what is read of them.
pub record IsRead (g : Gate) (w : Lead) : Type 0 where
  pub read : w ≡ lead_of g
  pub words : words_in_range g ≡ true
  pub lead : lead_in_range g ≡ true

-- The same, and s are empty bins, enough of them.
pub record PassAsks (g : Gate) (w : Lead) (s : List ℕ) : Type 0 where
  pub read : w ≡ lead_of g
  pub words : words_in_range g ≡ true
  pub lead : lead_in_range g ≡ true
  pub empty : (x : ℕ) → get_or s x 0 ≡ 0
  pub room : idle_bin + w.behind < length s
