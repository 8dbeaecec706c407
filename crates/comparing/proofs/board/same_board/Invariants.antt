-- The plugins passed stand alike.
use Rattle.std.proofs.Common.{◌≡◌, true}
use Rattle.comparing.specs.Boards.{same_first}
use Rattle.comparing.proofs.board.same_board.Given as goal

abbrev pub invariant-loop-i : goal.invariant-loop-i
invariant-loop-i g l = same_first l.i l.first.gate.now (g.L.Plugins.items l.first.list) l.second.gate.now (g.M.Plugins.items l.second.list) ≡ true
