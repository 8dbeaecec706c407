-- `soundness::pass::list_is_sound` answers `sound g` of the lent list. The loop's invariant has two parts. `Passed`: each of the first i records
-- breaks no clause on tickets by itself, the bins count them, and `others` has the codes of the other tickets that they hold, no two equal, no
-- more than there may be. `SlotsPassed`: each of them has a slot or none, as is right, and `slots` has these and those of the row's first part, none
-- twice.
use lib.ListN.{take}
use Rattle.model.proofs.Relation.{times}
use Rattle.soundness.proofs.MetLaws.{SlotsPassed}
use Rattle.soundness.proofs.PassLaws.{Passed}
use Rattle.soundness.proofs.pass.list_is_sound.Given as goal

abbrev pub invariant-loop-i : goal.invariant-loop-i
invariant-loop-i g l =
    record {
      passed : Passed l.lead (g.L.Plugins.items l.list) l.bins l.others l.i;
      slots : SlotsPassed l.lead.k (λ s. times s (take l.early l.row)) (g.L.Plugins.items l.list) l.i l.slots.met;
    }
