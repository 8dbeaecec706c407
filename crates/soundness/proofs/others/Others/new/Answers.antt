-- `soundness::others::Others::new`: no code is kept, and no residue.
use Rattle.soundness.proofs.OtherLaws.{covers_none}
use Rattle.soundness.proofs.others.Others.new.Goals as goal

pub invariant_of-result : goal.invariant_of-result
invariant_of-result g c = rw c.new.ensures (covers_none g.row.RESIDUES c.requires)
