-- One record by itself: the clauses that speak of single records, and the record's bin.
use Rattle.std.specs.Prelude.{ℕ, ◌+◌, ◌≤◌, ◌≡◌, Bool, cond, false, not, true, ◌&&◌, Option, MatchOption, eqb, leb}
use Rattle.model.specs.declared.Record.{Record}
use Rattle.model.specs.declared.Ticket.{Ticket}
use Rattle.ranges.specs.declared.lead.Lead.{Lead}
use Rattle.tally.specs.declared.record.Class.{Class}
use Rattle.tally.specs.declared.record.Class.TheVariants.{Idle, Other, Place}
use Rattle.model.specs.Lists.{implies}
use Rattle.model.specs.Sound.{among, held, inside, record_in_range, ticket_of}
use Rattle.model.specs.Steps.{col, val}
use Rattle.ranges.specs.Lead.{lead_block, pending_of}
use Rattle.tally.specs.Places.{places_after}

-- "A held ticket of ISSUE's colour has a value not above ISSUE's.": of one record.
abbrev pub below_issue : Lead → Record → Bool
below_issue w r = implies (held r && eqb r.colour.0 (col w.issue)) (leb r.value.0 (val w.issue))

-- "If VALID leads and the colours differ, no held ticket has VALID's colour.": of one record.
abbrev pub colour_unheld : Lead → Record → Bool
colour_unheld w r = implies w.anew (implies (held r) (not (eqb r.colour.0 (col w.valid))))

-- "No plugin inside holds one of those places after VALID.": of one record.
abbrev pub no_place_inside : Lead → Record → Bool
no_place_inside w r = not (inside r && among (ticket_of r) (pending_of w))

-- A record that is in range and keeps the first two.
unfoldable pub keeps_clauses : Lead → Record → Bool
keeps_clauses w r = record_in_range (lead_block w) w.k r && below_issue w r && colour_unheld w r

-- A record that breaks no clause by itself.
unfoldable pub record_sound : Lead → Record → Bool
record_sound w r = keeps_clauses w r && no_place_inside w r

-- The highest value that a held ticket of the colour c may have, in blocks whose last value is `last`: ISSUE's (i) where the colour is ISSUE's.
unfoldable pub top_value : ℕ → Ticket → ℕ → ℕ
top_value c i last = cond (eqb c (col i)) (val i) last

-- The bins below this one are for the colours 0 to 64, this one is for idle records, and those after it for the places after VALID.
abbrev pub idle_bin : ℕ
idle_bin = 65

-- The bin of a record: its colour's if it holds another ticket than a place after VALID, and if it holds such a place, the place's.
unfoldable pub bin_of : Lead → Record → ℕ
bin_of w r =
    cond (held r)
    (cond (among (ticket_of r) (pending_of w)) (idle_bin + places_after w.size (val w.valid) r.value.0) r.colour.0)
    idle_bin

-- r breaks no clause by itself, and d is its bin.
pub record InBin (w : Lead) (r : Record) (d : ℕ) : Type 0 where
  pub keeps : record_sound w r ≡ true
  pub bin : d ≡ bin_of w r
  pub room : d ≤ idle_bin + w.behind

-- The bin of a record whose colour is c, by what the record is.
abbrev pub bin_number : ℕ → Class → ℕ
bin_number c Idle = idle_bin
bin_number c (Place j) = idle_bin + j
bin_number c Other = c

-- The number of a place, and 1 for all else.
abbrev pub place_number : Class → ℕ
place_number Idle = 1
place_number (Place j) = j
place_number Other = 1

-- The record r breaks no clause by itself, and x is what it is. Places are numbered from 1 on.
pub record IsClass (w : Lead) (r : Record) (x : Class) : Type 0 where
  pub binned : InBin w r (bin_number r.colour.0 x)
  pub first : 1 ≤ place_number x

-- x is what the record r is, nothing if r breaks a clause by itself.
abbrev pub HasClass : Lead → Record → Option Class → Type 0
HasClass w r x = MatchOption x (record_sound w r ≡ false) (IsClass w r)
