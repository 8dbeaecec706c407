-- What the pass over two boards asks of a gate and a plugin's record, and what it tests; and what alike answers.
use Rattle.std.specs.Prelude.{ℕ, Bool, List, Result, Err, ◌≢◌, cond, get_or, not}
use Rattle.model.specs.declared.Gate.{Gate}
use Rattle.model.specs.declared.Record.{Record}
use Rattle.model.specs.declared.Refusal.{Refusal}
use Rattle.model.specs.declared.Refusal.TheVariants.{WrongLength}
use Rattle.model.specs.Board.{same_standing}
use Rattle.model.specs.Calls.{idle_record}
use Rattle.model.specs.Alike.{alike}
use Rattle.model.specs.Lists.{all_below}
use Rattle.model.specs.Sound.{ticket_of}
use Rattle.model.specs.Steps.{InBlock, block_of}

-- A plugin's place on the board can be read: the value of its ticket, if it holds one, and VALID's are of the block.
pub record Readable (g : Gate) (r : Record) : Type 0 where
  pub ticket_in : r.region ≢ 0 → InBlock (block_of g) (ticket_of r)
  pub valid_in : InBlock (block_of g) g.valid

-- The plugin at place i stands in both gates alike.
abbrev pub same_at : Gate → List Record → Gate → List Record → ℕ → Bool
same_at g l h m i = same_standing (block_of g) g (get_or l i idle_record) (block_of h) h (get_or m i idle_record)

-- The first n plugins do.
abbrev pub same_first : ℕ → Gate → List Record → Gate → List Record → Bool
same_first n g l h m = all_below (same_at g l h m) n

-- What alike answers, of two gates and lists of which each has the length N of its gate or not.
abbrev pub alikes : Bool → Gate → List Record → Bool → Gate → List Record → Result Bool Refusal
alikes list_long g l other_long h m = cond (not list_long) (Err WrongLength) (cond (not other_long) (Err WrongLength) (alike g l h m))
