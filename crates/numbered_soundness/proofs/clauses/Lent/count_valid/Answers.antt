-- Every place is looked at.
use Rattle.std.proofs.Common.{arith, get_or, rules, sym, ◌∙◌, ◌&&◌}
use borrow.Author.Tests.{tests}
use Prim.Native.Nat.{ℕ}
use mir.Val.{bool_byte}
use Rattle.std.specs.List.{range_with_len}
use Rattle.std.proofs.lemmas.Iterator.{YieldsList-from_map, YieldsList-from_range}
use Rattle.std.proofs.lemmas.Iterator.Consumers.{fits_by_from_yields_list, sum_by_from_yields_List}
use Rattle.numbered.proofs.SliceLaws.{counted_records}
use Rattle.numbered.specs.Calls.{idle_numbered}
use Rattle.numbered.specs.declared.NumberedRecord.{NumberedRecord}
use Rattle.numbered.specs.Sound.{has_ticket, not_above_valid}
use Rattle.numbered_soundness.specs.Columns.{records_in}
use Rattle.numbered_soundness.proofs.Loops.{sum_most, sum_reads}
use Rattle.numbered_soundness.proofs.clauses.Lent.count_valid.Goals as goal

pub sum-requires-clause-fits : goal.sum-requires-clause-fits
sum-requires-clause-fits c =
    let s = c.args.self.now in
    let one : ℕ → ℕ = λ at. bool_byte ((λ (r : NumberedRecord). has_ticket r && not_above_valid s.gate.now r.ticket) (get_or (records_in s.list) at idle_numbered)) in
    fits_by_from_yields_list one (range_with_len 0 c.from.result) c.map.result _
    (YieldsList-from_map _ one (YieldsList-from_range 0 c.from.result c.from.result c.map.ensures.source (omega arith)) c.map.ensures.closure (λ x r q k. search (rules, tests)))
    (omega (arith, sum_most (λ (r : NumberedRecord). has_ticket r && not_above_valid s.gate.now r.ticket) (records_in s.list) c.from.result (counted_records _ _ _ _ s.long ∙ sym c.from.ensures)))

pub returns : goal.returns
returns c =
    let s = c.args.self.now in
    let one : ℕ → ℕ = λ at. bool_byte ((λ (r : NumberedRecord). has_ticket r && not_above_valid s.gate.now r.ticket) (get_or (records_in s.list) at idle_numbered)) in
    sum_by_from_yields_List one (range_with_len 0 c.from.result) c.map.result _ c.sum.ensures.ran
    (YieldsList-from_map _ one (YieldsList-from_range 0 c.from.result c.from.result c.map.ensures.source (omega arith)) c.map.ensures.closure (λ x r q k. search (rules, tests)))
    ∙ sum_reads (λ (r : NumberedRecord). has_ticket r && not_above_valid s.gate.now r.ticket) (records_in s.list) c.from.result (counted_records _ _ _ _ s.long ∙ sym c.from.ensures)
