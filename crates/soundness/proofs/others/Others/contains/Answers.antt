-- `soundness::others::Others::contains` looks through the codes that are kept, if one has the residue.
use Rattle.std.proofs.Common.{rules, ◌≡◌, ℕ, Bool, eqb, refl}
use Rattle.std.proofs.lemmas.Fn.{fold_over, fronts}
use Rattle.std.proofs.lemmas.Iterator.{YieldsList-from_slice}
use Rattle.model.specs.Lists.{any}
use Rattle.soundness.proofs.Loops.{any_snoc}
use Rattle.soundness.proofs.others.Others.contains.Goals as goal

pub residue_of-requires : goal.residue_of-requires
residue_of-requires g c = c.self.invariant.some

pub returns : goal.returns
unfolding any
returns g c =
    let is : ℕ → Bool = λ y. eqb y c.code_of-code.result in
    rw (← c.code_of-code.ensures, ← c.self.view_is)
    (fold_over fronts (λ y. y.now) _ (λ ys b. b ≡ any is ys) _ (λ ys a x b f' j k. let more = any_snoc is ys x.now in search (rules, more))
    _ _ _ _ (YieldsList-from_slice {s = c.iter.result} c.self.inside.codes.items (search rules)).runs refl c.fold.ensures.ran)
