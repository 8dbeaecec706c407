-- Every place is looked at.
use Rattle.std.proofs.Common.{arith, get_or, refl, rules, sym, ◌∙◌}
use borrow.Author.Tests.{tests}
use Rattle.std.proofs.lemmas.Iterator.{YieldsList-from_range}
use Rattle.std.proofs.lemmas.Iterator.Search.{all_from_yields_List}
use Rattle.numbered.proofs.SliceLaws.{counted_records}
use Rattle.numbered.specs.Calls.{idle_numbered}
use Rattle.numbered_soundness.specs.Columns.{records_in}
use Rattle.numbered_soundness.specs.Records.{record_passes}
use Rattle.numbered_soundness.proofs.Loops.{all_reads}
use Rattle.numbered_soundness.proofs.clauses.Lent.records_pass.Goals as goal

pub returns : goal.returns
returns c =
    let s = c.args.self.now in
    all_from_yields_List (λ at. record_passes s.gate.now (get_or (records_in s.list) at idle_numbered)) _ _ _ c.all.ensures.ran
    (YieldsList-from_range 0 c.from.result c.from.result refl (omega arith)) (λ x b q k. search (rules, tests))
    ∙ all_reads (record_passes s.gate.now) (records_in s.list) c.from.result (counted_records _ _ _ _ s.long ∙ sym c.from.ensures)
