-- `gate::new_gate::open`: a refusal leaves the list.
use mathlib.Core.Path.{ap, ◌∙◌}
use Rattle.std.proofs.Common.{Err}
use Rattle.std.proofs.lemmas.Result.{err_from_is_err_and}
use Rattle.gate.proofs.OpenLaws.{open_refused}
use Rattle.gate.proofs.new_gate.open.Goals as goal

pub returns-in_err-gate-clause-meets : goal.returns-in_err-gate-clause-meets
returns-in_err-gate-clause-meets c =
    let e = err_from_is_err_and c.from_residual.result c.from_residual.ensures.1 in
    let l = c.args.list.now in
    rw (e.1 ∙ ap Err e.2)
    (open_refused c.args.year c.args.n c.args.k l.regions.now l.marks.now l.values.now l.colours.now l.slots.now c.in_err-gate.field-0.0
    (rw (c.read.ensures.regions, c.read.ensures.marks, c.read.ensures.values, c.read.ensures.colours, c.read.ensures.slots) at c.in_err-gate.ensures))
