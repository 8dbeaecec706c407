-- The results of a list of calls as they are written out: nine slices, with an element for each call.
use Rattle.std.specs.Prelude.{ℕ, ◌<◌, Bool, ◌&&◌, List, ◌++◌, map, drop, length, set, leb}
use Rattle.model.specs.Refusals.{Answered}
use Rattle.model.specs.Steps.{val, col}
use Rattle.answers.specs.declared.shown.Shown.{Shown}
use Rattle.answers.specs.Answers.{numbers_of}

-- The nine slices: each call's number, its yes as 1 or no as 0, its place, its ticket's value and colour, the slot that its yes gave, and the
-- number of its rule and what the rule compared; what a call's answer does not have is 0.
pub record Results : Type 0 where
  pub numbers : List ℕ
  pub verdicts : List ℕ
  pub places : List ℕ
  pub tickets : List ℕ
  pub shades : List ℕ
  pub given : List ℕ
  pub rules : List ℕ
  pub of_tickets : List ℕ
  pub against : List ℕ

abbrev pub results : List ℕ → List ℕ → List ℕ → List ℕ → List ℕ → List ℕ → List ℕ → List ℕ → List ℕ → Results
results ns vs ps ts cs ss us xs ys = record {
  numbers = ns;
  verdicts = vs;
  places = ps;
  tickets = ts;
  shades = cs;
  given = ss;
  rules = us;
  of_tickets = xs;
  against = ys;
}

-- There is a plugin number for each of m calls, and room for its result.
unfoldable pub has_room : ℕ → List ℕ → Results → Bool
has_room m plugins w =
    leb m (length plugins) && leb m (length w.numbers) && leb m (length w.verdicts) && leb m (length w.places)
    && leb m (length w.tickets) && leb m (length w.shades) && leb m (length w.given) && leb m (length w.rules)
    && leb m (length w.of_tickets) && leb m (length w.against)

-- There is room for the result of call i.
pub record RoomAt (i : ℕ) (w : Results) : Type 0 where
  pub in_numbers : i < length w.numbers
  pub in_verdicts : i < length w.verdicts
  pub in_places : i < length w.places
  pub in_tickets : i < length w.tickets
  pub in_shades : i < length w.shades
  pub in_given : i < length w.given
  pub in_rules : i < length w.rules
  pub in_of_tickets : i < length w.of_tickets
  pub in_against : i < length w.against

-- The result of call i is written, and nothing else.
abbrev pub written : Results → ℕ → Shown → Results
written w i r =
    results (set w.numbers i r.number) (set w.verdicts i r.yes) (set w.places i r.place) (set w.tickets i (val r.ticket))
    (set w.shades i (col r.ticket)) (set w.given i r.slot) (set w.rules i r.rule.number)
    (set w.of_tickets i r.rule.of_ticket) (set w.against i r.rule.against)

-- The front of a slice is overwritten; what stood after it remains.
abbrev pub over : List ℕ → List ℕ → List ℕ
over xs old = xs ++ drop (length xs) old

-- The answers of a list of calls are written.
abbrev pub all_written : List Answered → Results → Results
all_written answers w =
    results (over (map (λ a. (numbers_of a).number) answers) w.numbers) (over (map (λ a. (numbers_of a).yes) answers) w.verdicts)
    (over (map (λ a. (numbers_of a).place) answers) w.places) (over (map (λ a. val (numbers_of a).ticket) answers) w.tickets)
    (over (map (λ a. col (numbers_of a).ticket) answers) w.shades) (over (map (λ a. (numbers_of a).slot) answers) w.given)
    (over (map (λ a. (numbers_of a).rule.number) answers) w.rules) (over (map (λ a. (numbers_of a).rule.of_ticket) answers) w.of_tickets)
    (over (map (λ a. (numbers_of a).rule.against) answers) w.against)
