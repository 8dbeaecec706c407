-- `tally::counts::each_one` answers whether each bin has one record.
use Rattle.std.proofs.Common.{rules, ◌≡◌, ℕ, Bool, eqb, subst, refl}
use Rattle.std.proofs.lemmas.Fn.{fold_over, fronts, slice_gives}
use Rattle.model.specs.Lists.{all}
use Rattle.tally.proofs.FoldLaws.{all_snoc}
use Rattle.tally.proofs.counts.each_one.Goals as goal

pub returns : goal.returns
unfolding all
returns c =
    let one : ℕ → Bool = λ x. eqb x 1 in
    subst (λ l. c.fold.result ≡ all one l) c.iter.ensures.rest
    (fold_over fronts (λ y. y.now) _ (λ ys b. b ≡ all one ys) _ (λ ys a x b f' j k. let more = all_snoc one ys x.now in search (rules, more))
    _ _ _ _ (slice_gives c.iter.result) refl c.fold.ensures.ran)
