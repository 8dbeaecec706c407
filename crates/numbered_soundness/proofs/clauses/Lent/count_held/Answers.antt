-- Every place from the first on is looked at.
use Rattle.std.proofs.Common.{arith, get_or, refl, rules, ◌∙◌}
use borrow.Author.Tests.{tests}
use Prim.Native.Nat.{ℕ, ◌-◌}
use mir.Val.{bool_byte}
use Rattle.std.specs.List.{range_with_len}
use Rattle.std.proofs.lemmas.Iterator.{YieldsList-from_map, YieldsList-from_range}
use Rattle.std.proofs.lemmas.Iterator.Consumers.{fits_by_from_yields_list, sum_by_from_yields_List}
use Rattle.numbered.proofs.SliceLaws.{counted_records}
use Rattle.numbered.specs.Calls.{idle_numbered}
use Rattle.numbered.specs.Sound.{holds_number}
use Rattle.numbered_soundness.specs.Columns.{records_in}
use Rattle.numbered_soundness.proofs.Loops.{sum_on, sum_on_most}
use Rattle.numbered_soundness.proofs.clauses.Lent.count_held.Goals as goal

pub sum-requires-clause-fits : goal.sum-requires-clause-fits
sum-requires-clause-fits c =
    let s = c.args.self.now in
    let n : ℕ = c.from.result - c.args.from in
    let one : ℕ → ℕ = λ at. bool_byte (holds_number c.args.ticket (get_or (records_in s.list) at idle_numbered)) in
    fits_by_from_yields_list one (range_with_len c.args.from n) c.map.result _
    (YieldsList-from_map _ one (YieldsList-from_range c.args.from c.from.result n c.map.ensures.source refl) c.map.ensures.closure (λ x r q k. search (rules, tests)))
    (omega (arith, sum_on_most (holds_number c.args.ticket) (records_in s.list) c.args.from n (omega (arith, counted_records _ _ _ _ s.long, c.from.ensures))))

pub returns : goal.returns
returns c =
    let s = c.args.self.now in
    let n : ℕ = c.from.result - c.args.from in
    let one : ℕ → ℕ = λ at. bool_byte (holds_number c.args.ticket (get_or (records_in s.list) at idle_numbered)) in
    sum_by_from_yields_List one (range_with_len c.args.from n) c.map.result _ c.sum.ensures.ran
    (YieldsList-from_map _ one (YieldsList-from_range c.args.from c.from.result n c.map.ensures.source refl) c.map.ensures.closure (λ x r q k. search (rules, tests)))
    ∙ sum_on (holds_number c.args.ticket) (records_in s.list) c.args.from n (omega (arith, counted_records _ _ _ _ s.long, c.from.ensures))
