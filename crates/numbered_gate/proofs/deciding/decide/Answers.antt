-- `numbered_gate::deciding::decide`: what the call makes of its plugin's record is the whole outcome.
use mathlib.Core.Path.{ap, ◌∙◌}
use Rattle.std.proofs.Common.{Err}
use Rattle.std.proofs.lemmas.Result.{err_from_is_err_and}
use Rattle.numbered.specs.Calls.{idle_numbered}
use Rattle.numbered_gate.proofs.CallLaws.{decided, refused}
use Rattle.numbered_gate.proofs.deciding.decide.Goals as goal

pub returns-in_err-effect : goal.returns-in_err-effect
returns-in_err-effect c =
    let e = err_from_is_err_and c.from_residual-in_err-effect.result c.from_residual-in_err-effect.ensures.1 in
    rw (e.1 ∙ ap Err e.2)
    (refused c.args.name c.args.g _ _ _ c.args.p c.in_ok-at.at c.in_ok-at.ensures c.record.result (c.record.ensures idle_numbered) c.called.new.g c.in_err-effect.field-0.0 c.in_err-effect.ensures)

pub returns : goal.returns
returns c =
    decided c.args.name c.args.g _ _ _ c.args.p c.in_ok-at.at c.in_ok-at.ensures c.record.result (c.record.ensures idle_numbered) c.called.new.g c.in_ok-effect.effect c.in_ok-effect.ensures
