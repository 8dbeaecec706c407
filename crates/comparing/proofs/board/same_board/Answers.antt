-- A plugin that does not stand alike decides.
use Rattle.std.proofs.Common.{◌<◌, arith}
use Rattle.comparing.specs.Boards.{same_at}
use Rattle.model.specs.Calls.{idle_record}
use Rattle.comparing.proofs.BoardLaws.{below_not, readable}
use Rattle.comparing.proofs.board.same_board.Goals as goal

pub same_standing-requires : goal.same_standing-requires
same_standing-requires g c =
    let bound : c.loop-i.i < c.args.first.now.gate.now.n = omega arith in (
      readable _ _ _ _ _ (c.record-r.ensures idle_record) c.requires.first_sound (g.met.L.Plugins.counted _ _ c.requires.first_long) bound,
      readable _ _ _ _ _ (c.record-s.ensures idle_record) c.requires.second_sound (g.met.M.Plugins.counted _ _ c.requires.second_long) bound,
    )

pub returns-then-not-same_standing : goal.returns-then-not-same_standing
returns-then-not-same_standing g c =
    let bound : c.loop-i.i < c.args.first.now.gate.now.n = omega arith in
    below_not (same_at c.args.first.now.gate.now (g.L.Plugins.items c.args.first.now.list) c.args.second.now.gate.now (g.M.Plugins.items c.args.second.now.list)) _ _ bound (rw ((c.record-r.ensures idle_record), (c.record-s.ensures idle_record)) at c.if-not-same_standing.ensures)
