-- `tally::record::class_of_record` answers what the record is: a law for each return that is not found alone.
use native.Mathlib.Omega.{arith}
use mathlib.Core.Path.{sym, ◌∙◌}
use borrow.Author.Tests.{eqb-false, eqb-true}
use Rattle.std.proofs.Common.{tests}
use Rattle.model.proofs.Logic.{clash}
use Rattle.tally.proofs.BinLaws.{after_asks, colour_held, holds_another, idle_ticket, is_far, is_idle, is_other, is_place, place_unwaited, value_in, waits_for}
use Rattle.tally.proofs.record.class_of_record.Goals as goal
use Rattle.tally.proofs.record.class_of_record.Goals.{else-j-lead-via-else-j-lead, else-j-lead-via-then-j-lead+else-eq, else-lead-via-else-lead, else-lead-via-then-lead+else-eq-2}

pub returns-then-ne : goal.returns-then-ne
returns-then-ne c = idle_ticket _ _ c.if-record-eq-IDLE.true (λ v d. grind (arith, tests))

pub returns-then-record-eq-IDLE : goal.returns-then-record-eq-IDLE
returns-then-record-eq-IDLE c = is_idle _ _ c.if-record-eq-IDLE.true (omega arith) (grind (arith, tests)) (grind (arith, tests))

pub places_after-j-requires : goal.places_after-j-requires
places_after-j-requires c =
    after_asks _ _ (value_in c.args.lead c.args.record c.requires c.if-record-eq-IDLE.false c.if-record-lead.false c.top_value.ensures c.if-record-top_value.false)

pub returns-then-record-ne-WAITING : goal.returns-then-record-ne-WAITING
returns-then-record-ne-WAITING c =
    let v = value_in c.args.lead c.args.record c.requires c.if-record-eq-IDLE.false c.if-record-lead.false c.top_value.ensures c.if-record-top_value.false in
    place_unwaited _ _ v
    (is_place _ _ v c.places_after-j.ensures c.if-j-lead.true (eqb-true _ _ (sym c.if-eq.ensures) ∙ c.place_colour.ensures)) (omega (arith, c.if-record-ne-WAITING.true))

pub returns-then-eq : goal.returns-then-eq
returns-then-eq c =
    let v = value_in c.args.lead c.args.record c.requires c.if-record-eq-IDLE.false c.if-record-lead.false c.top_value.ensures c.if-record-top_value.false in
    waits_for _ _ v c.places_after-j.ensures
    (is_place _ _ v c.places_after-j.ensures c.if-j-lead.true (eqb-true _ _ (sym c.if-eq.ensures) ∙ c.place_colour.ensures)) (omega arith) (omega arith)

pub returns-then-eq-2 : goal.returns-then-eq-2
returns-then-eq-2 c =
    colour_held _ _ (value_in c.args.lead c.args.record c.requires c.if-record-eq-IDLE.false c.if-record-lead.false c.top_value.ensures c.if-record-top_value.false)
    c.if-lead.true (eqb-true _ _ (sym c.if-eq-2.ensures))

pub returns : goal.returns
returns c =
    let v = value_in c.args.lead c.args.record c.requires c.if-record-eq-IDLE.false c.if-record-lead.false c.top_value.ensures c.if-record-top_value.false in
    holds_another _ _ v
    (elim c.else-j-lead.branch [
      | else-j-lead-via-then-j-lead+else-eq w ↦
          is_other _ _ v c.places_after-j.ensures w.if-j-lead.true (λ e. eqb-false _ _ (sym w.if-eq.ensures) (e ∙ sym w.place_colour.ensures))
      | else-j-lead-via-else-j-lead w ↦ is_far _ _ v c.places_after-j.ensures w.if-j-lead.false
    ])
    (omega arith) (omega arith) c.if-record-lead-2.false
    (elim c.else-lead.branch [
      | else-lead-via-then-lead+else-eq-2 w ↦ λ u. eqb-false _ _ (sym w.if-eq-2.ensures)
      | else-lead-via-else-lead w ↦ λ u. clash _ u w.if-lead.false
    ])
