-- `asking::looking::looked`: the rule that applies says whether the ticket is valid, and the free row of a sound gate is in order.
use Rattle.std.proofs.Common.{rules}
use mathlib.Core.Path.{ap, sym, ◌∙◌}
use Rattle.model.specs.Rules.{rule_of}
use Rattle.asking.proofs.LookLaws.{look_no, look_yes}
use Rattle.begin.proofs.RecordLaws.{few_slots, in_region, row_end, row_order}
use Rattle.asking.proofs.looking.looked.Goals as goal

pub invariant_of-row : goal.invariant_of-row
invariant_of-row c = record { few = few_slots c.args.g.now c.args.r c.requires }

pub first-requires : goal.first-requires
first-requires c = record {
  zeros = row_end c.args.g.now c.args.r c.requires;
  in_order = row_order c.args.g.now c.args.r c.requires;
}

pub moved_up-g-requires : goal.moved_up-g-requires
moved_up-g-requires c = row_end c.args.g.now c.args.r c.requires

pub returns-then-not-says_yes : goal.returns-then-not-says_yes
returns-then-not-says_yes c =
    let told = in_region c.args.r 1 c.in_ok-ready.ensures in
    look_no c.args.g.now c.args.r told.0 told.1 c.rule_of-rule.result (c.rule_of-rule.ensures ∙ ap (rule_of c.args.g.now) c.ticket.ensures) (sym c.if-not-says_yes.ensures)

pub returns : goal.returns
returns c =
    let told = in_region c.args.r 1 c.in_ok-ready.ensures in
    look_yes c.args.g.now c.args.r told.0 told.1 c.rule_of-rule.result (c.rule_of-rule.ensures ∙ ap (rule_of c.args.g.now) c.ticket.ensures) (sym c.if-not-says_yes.ensures)
    c.unwrap_or_default-slot.result.0 (search rules) c.moved_up-g.result c.moved_up-g.ensures
