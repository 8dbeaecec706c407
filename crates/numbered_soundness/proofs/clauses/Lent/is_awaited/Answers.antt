-- Every place is looked at.
use Prim.Native.Nat.{ℕ}
use mathlib.Core.Bool.{Bool, false, ◌||◌}
use Rattle.std.proofs.Common.{arith, get_or, refl, rules, sym, ◌∙◌}
use borrow.Author.Tests.{tests}
use Rattle.std.proofs.lemmas.Iterator.{YieldsList-from_range}
use Rattle.std.proofs.lemmas.Iterator.Consumers.{fold_from_yields_List}
use Rattle.numbered.proofs.SliceLaws.{counted_records}
use Rattle.numbered.specs.Calls.{idle_numbered}
use Rattle.numbered.specs.Sound.{awaits_number}
use Rattle.numbered_soundness.specs.Columns.{records_in}
use Rattle.numbered_soundness.proofs.Loops.{found_reads}
use Rattle.numbered_soundness.proofs.clauses.Lent.is_awaited.Goals as goal

pub returns : goal.returns
returns c =
    let s = c.args.self.now in
    fold_from_yields_List _ (λ (found : Bool) (at : ℕ). found || awaits_number c.args.ticket (get_or (records_in s.list) at idle_numbered)) false _ c.fold.ensures.ran
    (YieldsList-from_range 0 c.from.result c.from.result refl (omega arith)) (λ a x b q k. search (rules, tests))
    ∙ found_reads (awaits_number c.args.ticket) (records_in s.list) c.from.result (counted_records _ _ _ _ s.long ∙ sym c.from.ensures)
