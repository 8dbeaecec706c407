-- `tally::counts::equal_bins` answers whether each of the 65 numbers is what its bin has.
use Rattle.std.proofs.Common.{rules, ◌≡◌, ℕ, Bool, eqb, ◌∙◌, refl}
use Rattle.std.proofs.lemmas.Fn.{fold_over, fronts}
use Rattle.std.proofs.lemmas.Iterator.{YieldsList-from_slice, YieldsList-from_zip, zips}
use Rattle.model.specs.Lists.{all}
use Rattle.tally.proofs.FoldLaws.{all_snoc, all_bins}
use Rattle.tally.proofs.counts.equal_bins.Goals as goal

pub returns : goal.returns
unfolding all
returns c =
    let same : ℕ × ℕ → Bool = λ x. eqb x.0 x.1 in
    fold_over (zips fronts fronts) (λ p. (p.0.now, p.1.now)) _ (λ ys b. b ≡ all same ys) _ (λ ys a x b f' j k. let more = all_snoc same ys (x.0.now, x.1.now) in search (rules, more))
    _ _ _ _ (YieldsList-from_zip {s = c.zip.result} (YieldsList-from_slice c.args.left.now cc) (YieldsList-from_slice c.args.bins.now cc)).runs refl c.fold.ensures.ran
    ∙ all_bins c.args.left.now c.args.bins.now (search rules) c.requires
