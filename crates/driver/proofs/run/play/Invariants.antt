-- `play` prints what `played` says of the schedule. Before each line the buffer has the text of the lines so far, what the part that is left
-- prints from the host as it is completes it, and there is room for 13 bytes for each byte of the part, and 50. The measure is the part's length.
-- Assumes nothing.
use Rattle.std.proofs.Common.{length}
use Rattle.driver.specs.Store.{host_of}
use Rattle.driver.proofs.PlayLaws.{Playing}
use Rattle.driver.proofs.run.play.Given as goal

abbrev pub invariant-loop-line : goal.invariant-loop-line
invariant-loop-line g l = Playing l.schedule g.row.N (host_of l.host) l.out.items l.part

abbrev pub decreases-loop-line : goal.decreases-loop-line
decreases-loop-line g l = length l.part
