-- Every place is looked at.
use Rattle.std.proofs.Common.{arith, refl, rules, sym, ◌∙◌}
use borrow.Author.Tests.{tests}
use Rattle.std.proofs.lemmas.Iterator.{YieldsList-from_range}
use Rattle.std.proofs.lemmas.Iterator.Search.{all_from_yields_List}
use Rattle.numbered.proofs.SliceLaws.{counted_records}
use Rattle.numbered_soundness.specs.Columns.{records_in}
use Rattle.numbered_soundness.specs.Records.{held_last}
use Rattle.numbered_soundness.proofs.Distinct.{distinct_as_read}
use Rattle.numbered_soundness.proofs.clauses.Lent.held_distinct.Goals as goal

pub returns : goal.returns
returns c =
    let s = c.args.self.now in
    all_from_yields_List (held_last (records_in s.list)) _ _ _ c.all.ensures.ran
    (YieldsList-from_range 0 c.from.result c.from.result refl (omega arith)) (λ x b q k. search (rules, tests))
    ∙ distinct_as_read (records_in s.list) c.from.result (counted_records _ _ _ _ s.long ∙ sym c.from.ensures)
