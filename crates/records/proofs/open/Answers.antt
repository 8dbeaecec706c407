-- `records::open`: a refusal leaves the list.
use Rattle.std.proofs.Common.{arith}
use Rattle.std.proofs.lemmas.Result.{err_from_is_err_and}
use Rattle.model.specs.Opening.{open_gate}
use Rattle.opening.specs.Opens.{opens}
use Rattle.records.proofs.open.Goals as goal

pub returns-in_err-gate : goal.returns-in_err-gate
unfolding open_gate opens
returns-in_err-gate c =
    let e = err_from_is_err_and c.from_residual.result c.from_residual.ensures.1 in
    rw (e.1, e.2) (grind arith)
