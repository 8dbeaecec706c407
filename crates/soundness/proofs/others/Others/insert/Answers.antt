-- `soundness::others::Others::insert`: one code more is kept, and its residue.
use Rattle.std.proofs.Common.{rules}
use Rattle.soundness.proofs.OtherLaws.{covers_more}
use Rattle.soundness.proofs.others.Others.insert.Goals as goal

pub invariant_of-self : goal.invariant_of-self
invariant_of-self g c = rw c.push.ensures.items (covers_more c.code_of-code.result (search rules) c.residue_of.ensures.0 c.self.invariant)
