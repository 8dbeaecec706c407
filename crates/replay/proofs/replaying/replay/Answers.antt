-- A refused open, and the calls run.
use Rattle.std.proofs.Common.{sym, ◌∙◌}
use Rattle.std.proofs.lemmas.Bool.{not_from_true}
use Rattle.std.proofs.lemmas.Result.{err_from_is_err_and}
use borrow.Author.Tests.{not-false}
use Rattle.replay.proofs.ReplayLaws.{ran, refused}
use Rattle.replay.proofs.replaying.replay.Goals as goal

pub returns-in_err-opened-clause-replays : goal.returns-in_err-opened-clause-replays
returns-in_err-opened-clause-replays c =
    let p = err_from_is_err_and c.from_residual.result c.from_residual.ensures.1 in
    rw (p.1, p.2)
    (refused _ _ _ _ _ _ _ (sym c.has_room.ensures ∙ not-false _ (not_from_true _ c.if-not-has_room.false))
    (sym c.all_letters.ensures ∙ not-false _ (not_from_true _ c.if-not-all_letters.false)) _ _ _ c.in_err-opened.ensures.meets)

pub returns-clause-replays : goal.returns-clause-replays
returns-clause-replays c =
    ran _ _ _ _ _ _ _ (sym c.has_room.ensures ∙ not-false _ (not_from_true _ c.if-not-has_room.false))
    (sym c.all_letters.ensures ∙ not-false _ (not_from_true _ c.if-not-all_letters.false)) _ c.in_ok-opened.opened.answer _ c.in_ok-opened.ensures.meets _ _ _ c.run_calls.ensures.runs
