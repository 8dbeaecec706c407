-- What is copied is what stands behind the first of the first k places, or nothing if k is 0.
use Rattle.std.proofs.Common.{◌≡◌, [], ap, arith, drop, length, refl, rules, take}
use Rattle.std.proofs.lemmas.List.{drop_all}
use Rattle.steps.proofs.RowLaws.{row_moved}
use Rattle.steps.proofs.row.FreeRow.moved_up.Goals as goal

pub returns-in-Some : goal.returns-in-Some
returns-in-Some c =
    let long : length c.args.self.places ≡ 64 = search rules in
    let first : c.from.result ≡ c.args.self.k = search (rules, arith) in
    row_moved _ _ _ _ long c.args.self.few c.requires (rw first at (ap (drop 1) c.in-Some.ensures.cases.0)) c.copy_from_slice.ensures.after

pub returns-in_default : goal.returns-in_default
returns-in_default c =
    let long : length c.args.self.places ≡ 64 = search rules in
    let first : c.from.result ≡ c.args.self.k = search (rules, arith) in
    let none : length (take c.args.self.k c.args.self.places) ≡ 0 = rw first at c.in_default.ensures.cases in
    row_moved _ [] [] _ long c.args.self.few c.requires (drop_all 1 (take c.args.self.k c.args.self.places) (omega arith)) refl
