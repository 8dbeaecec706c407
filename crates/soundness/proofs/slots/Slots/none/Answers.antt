-- `soundness::slots::Slots::none` has no slot met.
use Rattle.soundness.proofs.MetLaws.{table_none}
use Rattle.soundness.proofs.slots.Slots.none.Goals as goal

pub returns : goal.returns
returns c = table_none _ c.requires.1
