-- `read_full` fills the buffer with the input's first bytes. Assumes nothing.
use Rattle.std.proofs.Common.{rules, length, sym, subst, ◌-◌}
use Rattle.std.proofs.KnownBytes.{Consumes-trans}
use Rattle.std.specs.Io.KnownBytes.{Consumes}
use Rattle.gaterun.proofs.RunLaws.{take_read}
use Rattle.gaterun.proofs.read_full.Goals as goal

pub loop-done-preserved : goal.loop-done-preserved
loop-done-preserved g c =
    let l = c.loop-done in
    let joined = take_read l.done (length l.buffer - l.done) c.in-Ok.n l.buffer c.read.new.buf l.invariant.1 c.in-Ok.ensures.bound.0 in
    (search rules, search rules, subst (Consumes _ _) (sym joined) (Consumes-trans _ _ _ _ _ l.invariant.2 c.in-Ok.ensures.bytes.0))
