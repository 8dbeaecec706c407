-- The row of the slots before the one reached.
use Rattle.std.proofs.Common.{◌≡◌}
use Rattle.model.specs.Calls.{free_row}
use Rattle.model.specs.Lists.{numbers_from}
use Rattle.steps.proofs.row.FreeRow.rising.Given as goal

abbrev pub invariant-loop-i : goal.invariant-loop-i
invariant-loop-i l = l.places ≡ free_row (numbers_from 1 l.i)
