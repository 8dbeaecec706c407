-- Slices that stay the same, one write after another.
use Rattle.std.proofs.Common.{◌∙◌}
use Rattle.results.specs.declared.results.ResultSlices.{ResultSlices}
use Rattle.results.specs.Slices.{SameSlices}

pub same_on : (s t u : ResultSlices) → SameSlices s t → SameSlices t u → SameSlices s u
same_on s t u a b = record {
  numbers = b.numbers ∙ a.numbers;
  verdicts = b.verdicts ∙ a.verdicts;
  places = b.places ∙ a.places;
  tickets = b.tickets ∙ a.tickets;
  shades = b.shades ∙ a.shades;
  given = b.given ∙ a.given;
  rules = b.rules ∙ a.rules;
  of_tickets = b.of_tickets ∙ a.of_tickets;
  against = b.against ∙ a.against;
}
