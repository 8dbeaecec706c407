-- `gate::deciding::decide`: what `begin` finds, and then what the call makes of its plugin's record.
use mathlib.Core.Path.{ap, ◌∙◌}
use Rattle.std.proofs.Common.{Err}
use Rattle.std.proofs.lemmas.Result.{err_from_is_err_and}
use Rattle.begin.proofs.FoundLaws.{found_place}
use Rattle.model.specs.Calls.{idle_record}
use Rattle.gate.proofs.DecideLaws.{accepts, of_sound, refused_at_first, refuses}
use Rattle.gate.proofs.deciding.decide.Goals as goal

pub returns-in_err-at : goal.returns-in_err-at
returns-in_err-at g c =
    let list = c.args.list in
    let gate = c.args.g.now in
    let e = err_from_is_err_and c.from_residual.result c.from_residual.ensures.1 in
    refused_at_first (g.L.Plugins.has_length list gate.n) c.args.name gate (g.L.Plugins.items list) c.args.p (g.met.L.Plugins.counted list gate.n)
    c.from_residual.result c.in_err-at.field-0.0 (e.1 ∙ ap Err e.2) c.in_err-at.ensures

pub record-requires : goal.record-requires
record-requires g c = let f = found_place _ _ _ _ c.in_ok-at.at c.in_ok-at.ensures in (c.args.g.now.n, f.has_length, f.below)

pub called-requires : goal.called-requires
called-requires g c =
    let list = c.args.list in
    let gate = c.args.g.now in
    rw (c.record.ensures idle_record)
    (of_sound (g.L.Plugins.has_length list gate.n) c.args.name gate (g.L.Plugins.items list) c.args.p (g.met.L.Plugins.counted list gate.n) c.in_ok-at.at c.in_ok-at.ensures)

pub returns-in_err-effect : goal.returns-in_err-effect
returns-in_err-effect g c =
    let list = c.args.list in
    let gate = c.args.g.now in
    let e = err_from_is_err_and c.from_residual-in_err-effect.result c.from_residual-in_err-effect.ensures.1 in
    refuses (g.L.Plugins.has_length list gate.n) c.args.name gate (g.L.Plugins.items list) c.args.p (g.met.L.Plugins.counted list gate.n) c.in_ok-at.at c.in_ok-at.ensures
    c.record.result (c.record.ensures idle_record) c.called.new.g c.from_residual-in_err-effect.result c.in_err-effect.field-0.0 (e.1 ∙ ap Err e.2) c.in_err-effect.ensures

pub returns : goal.returns
returns g c =
    let list = c.args.list in
    let gate = c.args.g.now in
    accepts (g.L.Plugins.has_length list gate.n) c.args.name gate (g.L.Plugins.items list) c.args.p (g.met.L.Plugins.counted list gate.n) c.in_ok-at.at c.in_ok-at.ensures
    c.record.result (c.record.ensures idle_record) c.called.new.g c.in_ok-effect.effect c.in_ok-effect.ensures
