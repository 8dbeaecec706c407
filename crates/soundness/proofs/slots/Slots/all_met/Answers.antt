-- `soundness::slots::Slots::all_met` answers whether each bit is set.
use Rattle.std.proofs.Common.{rules}
use Rattle.soundness.proofs.MetLaws.{met_all}
use Rattle.soundness.proofs.slots.Slots.all_met.Goals as goal

pub returns : goal.returns
returns c = met_all c.args.self.now.met (search rules)
