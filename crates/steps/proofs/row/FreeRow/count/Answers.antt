-- `position` finds the first 0 of the first k places.
use Rattle.std.proofs.Common.{◌≡◌, arith, eqb, length, rules, tests}
use Rattle.std.proofs.lemmas.Iterator.{YieldsList-from_slice}
use Rattle.std.proofs.lemmas.Iterator.Search.{position_from_yields_List}
use Rattle.steps.proofs.RowLaws.{first_empty}
use Rattle.steps.proofs.row.FreeRow.count.Goals as goal

pub returns : goal.returns
returns c =
    let long : length c.args.self.places ≡ 64 = search rules in
    let found = position_from_yields_List (λ slot. eqb slot 0) _ _ c.position.result c.position.ensures.ran (YieldsList-from_slice _ c.iter.ensures.rest) (λ x b q k. search (rules, tests)) in
    rw (c.unwrap_or.ensures, found, c.from-end.ensures) (first_empty c.args.self.places c.args.self.k (omega (arith, c.args.self.few)) c.requires)
