-- `soundness::slots::places_used` counts the places of the free row that are not 0.
use Rattle.std.proofs.Common.{rules, ◌∙◌, not, eqb, ℕ, arith}
use mir.Val.{bool_byte}
use Rattle.std.proofs.lemmas.Iterator.{YieldsList-from_map, YieldsList-from_slice}
use Rattle.std.proofs.lemmas.Iterator.Consumers.{fits_by_from_yields_list, sum_by_from_yields_List}
use Rattle.soundness.proofs.MetLaws.{used_sum, used_most}
use Rattle.soundness.proofs.slots.places_used.Goals as goal

pub sum-requires-clause-fits : goal.sum-requires-clause-fits
sum-requires-clause-fits c =
    let one : ℕ → ℕ = λ x. bool_byte (not (eqb x 0)) in
    fits_by_from_yields_list one c.args.free.now c.map.result _
    (YieldsList-from_map _ one (YieldsList-from_slice c.args.free.now cc) c.map.ensures.closure (λ x r q k. search rules)) (omega (arith, used_most c.args.free.now, c.told-free))

pub returns : goal.returns
returns c =
    let one : ℕ → ℕ = λ x. bool_byte (not (eqb x 0)) in
    sum_by_from_yields_List one c.args.free.now c.map.result _ c.sum.ensures.ran
    (YieldsList-from_map _ one (YieldsList-from_slice c.args.free.now cc) c.map.ensures.closure (λ x r q k. search rules)) ∙ used_sum c.args.free.now
