-- `number_of` says one digit more in each turn. Assumes nothing.
use Rattle.std.proofs.Common.{ap, sym, ◌≡◌, ◌+◌, ◌*◌, ◌-◌, ◌∙◌, ◌++◌, rules}
use mathlib.Core.List.{map}
use Rattle.std.proofs.lemmas.Fn.{serves_by}
use Rattle.std.proofs.lemmas.List.{map_push}
use Rattle.std.proofs.lemmas.Iterator.{YieldsList-from_slice}
use Rattle.std.proofs.lemmas.Iterator.Consumers.{fold_from_yields_List}
use Rattle.schedule.proofs.FieldLaws.{Below, all_digits, digit_fits, fold_number, none_below, one_digit_more, yielded}
use Rattle.schedule.proofs.field.number_of.Goals as goal

pub fold-requires-clause-callable : goal.fold-requires-clause-callable
fold-requires-clause-callable c =
    serves_by _ (λ xs q. Below (map (λ b. b.now) xs) q.1)
    (λ xs q x v below step.
    let told : v.1 ≡ q.1 * 10 + (x.now - 48) = search rules in
    rw (map_push, told) (one_digit_more (map (λ b. b.now) xs) x.now q.1 below))
    _ _ _ _ none_below
    (λ xs t q x u run step below.
    let text = yielded c.iter.result t xs run ∙ ap (λ l. map (λ b. b.now) xs ++ l) step in
    let fits = digit_fits c.args.numeral.now (map (λ b. b.now) xs) u.rest.now x.now q.1 (sym c.iter.ensures.rest ∙ text) c.requires.all_digits c.requires.short below in
    search rules)

pub returns : goal.returns
returns c =
    fold_from_yields_List _ (λ m b. m * 10 + (b - 48)) 0 c.fold.result c.fold.ensures.ran (YieldsList-from_slice _ c.iter.ensures.rest) (λ n x r f k. search rules)
    ∙ fold_number 0 _ ∙ all_digits _ c.requires.all_digits
