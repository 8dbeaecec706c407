-- The scan of the colours that are left, from the colour reached, finds what the whole scan finds.
use Rattle.std.proofs.Common.{◌≡◌, ◌-◌}
use Rattle.model.specs.Steps.{free_colour, new_colour, scan}
use Rattle.steps.proofs.colour.new_colour.Given as goal

abbrev pub invariant-loop : goal.invariant-loop
invariant-loop l = scan (free_colour l.g) l.g.k (l.g.k - l.counter) l.at.0 ≡ new_colour l.g l.initial.at.0
