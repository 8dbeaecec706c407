-- The nine slices that results are written to, as they are lent together.
use Rattle.std.specs.Prelude.{◌≡◌}
use Rattle.results.specs.declared.results.ResultSlices.{ResultSlices}
use Rattle.results.specs.Results.{Results, results}

-- What they hold.
abbrev pub lists_of : ResultSlices → Results
lists_of s =
    results s.numbers.now s.verdicts.now s.places.now s.tickets.now s.shades.now s.given.now s.rules.now s.of_tickets.now s.against.now

-- They are the same slices, whatever they hold. Each function that is lent them promises it, since only so does its caller learn what its own slices hold.
pub record SameSlices (s t : ResultSlices) : Type 0 where
  pub numbers : t.numbers.ghost_name ≡ s.numbers.ghost_name
  pub verdicts : t.verdicts.ghost_name ≡ s.verdicts.ghost_name
  pub places : t.places.ghost_name ≡ s.places.ghost_name
  pub tickets : t.tickets.ghost_name ≡ s.tickets.ghost_name
  pub shades : t.shades.ghost_name ≡ s.shades.ghost_name
  pub given : t.given.ghost_name ≡ s.given.ghost_name
  pub rules : t.rules.ghost_name ≡ s.rules.ghost_name
  pub of_tickets : t.of_tickets.ghost_name ≡ s.of_tickets.ghost_name
  pub against : t.against.ghost_name ≡ s.against.ghost_name
