-- `tickets::leaving::left` is safe: by the laws of a record of a sound list.
use mathlib.Core.Bool.{Bool, not, ◌&&◌}
use mathlib.Core.Path.{ap, sym, ◌∙◌}
use lib.Dec.{eqb}
use Rattle.begin.proofs.RecordLaws.{few_slots, leave_safe, may_leave}
use Rattle.model.specs.Steps.{is_valid}
use Rattle.tickets.proofs.leaving.left.Goals as goal

pub invariant_of-row : goal.invariant_of-row
invariant_of-row c = record { few = few_slots c.args.g.now c.args.r c.requires }

pub put_back-g-requires : goal.put_back-g-requires
put_back-g-requires c =
    let g = c.args.g.now in
    let r = c.args.r in
    let told = may_leave r c.is_valid.result c.in_ok-may_leave.ensures in
    let valid = ap (λ (v : Bool). eqb r.region 1 && not v) (sym (c.is_valid.ensures ∙ ap (is_valid g) c.ticket.ensures)) ∙ told.1 in
    (leave_safe g r c.requires told.0 valid c.moved-t.result c.moved-t.ensures).row_room

pub recounted-g-requires : goal.recounted-g-requires
recounted-g-requires c =
    let g = c.args.g.now in
    let r = c.args.r in
    let told = may_leave r c.is_valid.result c.in_ok-may_leave.ensures in
    let valid = ap (λ (v : Bool). eqb r.region 1 && not v) (sym (c.is_valid.ensures ∙ ap (is_valid g) c.ticket.ensures)) ∙ told.1 in
    let safe = leave_safe g r c.requires told.0 valid c.moved-t.result c.moved-t.ensures in
    (safe.given_colour, safe.returned_colour, safe.given_count, safe.returned_count)
