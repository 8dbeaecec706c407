-- Every ticket is looked for.
use Rattle.std.proofs.Common.{refl, rules, ◌+◌, ◌∙◌}
use borrow.Author.Tests.{tests}
use Rattle.std.proofs.lemmas.Iterator.{YieldsList-from_range}
use Rattle.std.proofs.lemmas.Iterator.Search.{all_from_yields_List}
use Rattle.model.specs.Lists.{any}
use Rattle.numbered.specs.Sound.{awaits_number}
use Rattle.numbered_soundness.specs.Columns.{records_in}
use Rattle.numbered_soundness.proofs.Loops.{all_after}
use Rattle.numbered_soundness.proofs.clauses.Lent.all_awaited.Goals as goal

pub returns : goal.returns
returns c =
    let s = c.args.self.now in
    all_from_yields_List (λ t. any (awaits_number (t + 1)) (records_in s.list)) _ _ _ c.all.ensures.ran
    (YieldsList-from_range c.args.after c.args.last _ refl refl) (λ x b q k. search (rules, tests))
    ∙ all_after (λ t. any (awaits_number t) (records_in s.list)) c.args.after _
