-- `asking::placing::placed`: a waiting plugin's ticket is of the block, since its record is of a sound list.
use Rattle.begin.proofs.RecordLaws.{in_region, waits_in_block}
use Rattle.asking.proofs.placing.placed.Goals as goal

pub returns_until_valid-requires : goal.returns_until_valid-requires
returns_until_valid-requires c =
    rw c.ticket.ensures
    (waits_in_block c.args.g.now c.args.r c.requires (in_region c.args.r 1 c.in_ok-ready.ensures).1)
