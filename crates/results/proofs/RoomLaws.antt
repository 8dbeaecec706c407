-- Laws of the room that results need.
use Prim.Native.Nat.{ℕ, ◌≤◌}
use mathlib.Core.Path.{◌≡◌}
use mathlib.Core.Bool.{true}
use mathlib.Core.List.{List}
use lib.ListN.{length}
use borrow.Author.Tests.{leb-true}
use Rattle.results.specs.Results.{Results, has_room}
use Rattle.model.proofs.Logic.{and_l, and_r}

-- The lengths that `has_room` tests.
pub record Room (m : ℕ) (plugins : List ℕ) (w : Results) : Type 0 where
  pub for_plugins : m ≤ length plugins
  pub for_numbers : m ≤ length w.numbers
  pub for_verdicts : m ≤ length w.verdicts
  pub for_places : m ≤ length w.places
  pub for_tickets : m ≤ length w.tickets
  pub for_shades : m ≤ length w.shades
  pub for_given : m ≤ length w.given
  pub for_rules : m ≤ length w.rules
  pub for_of_tickets : m ≤ length w.of_tickets
  pub for_against : m ≤ length w.against

module _ (m : ℕ) (plugins : List ℕ) (w : Results) where
  pub room_use : has_room m plugins w ≡ true → Room m plugins w
  unfolding has_room
  room_use e = record {
    for_plugins = leb-true _ _ (search (and_l, and_r) depth 12);
    for_numbers = leb-true _ _ (search (and_l, and_r) depth 12);
    for_verdicts = leb-true _ _ (search (and_l, and_r) depth 12);
    for_places = leb-true _ _ (search (and_l, and_r) depth 12);
    for_tickets = leb-true _ _ (search (and_l, and_r) depth 12);
    for_shades = leb-true _ _ (search (and_l, and_r) depth 12);
    for_given = leb-true _ _ (search (and_l, and_r) depth 12);
    for_rules = leb-true _ _ (search (and_l, and_r) depth 12);
    for_of_tickets = leb-true _ _ (search (and_l, and_r) depth 12);
    for_against = leb-true _ _ (search (and_l, and_r) depth 12);
  }
