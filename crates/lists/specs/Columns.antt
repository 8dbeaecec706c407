-- A list as five slices that are lent for writing: what they hold, and what it is to write a record there.
use Rattle.std.specs.Prelude.{ℕ, ◌≡◌, ◌<◌, length, replicate, set}
use Rattle.lists.specs.declared.columns_mut.ColumnsMut.{ColumnsMut}
use Rattle.model.specs.declared.Record.{Record}
use Rattle.model.specs.Slices.{Lent, lent}

-- What they hold.
abbrev pub lent_in : ColumnsMut → Lent
lent_in c = lent c.regions.now c.marks.now c.values.now c.colours.now c.slots.now

-- They are the same slices, whatever they hold.
pub record SameColumns (c d : ColumnsMut) : Type 0 where
  pub regions : d.regions.ghost_name ≡ c.regions.ghost_name
  pub marks : d.marks.ghost_name ≡ c.marks.ghost_name
  pub values : d.values.ghost_name ≡ c.values.ghost_name
  pub colours : d.colours.ghost_name ≡ c.colours.ghost_name
  pub slots : d.slots.ghost_name ≡ c.slots.ghost_name

-- Five slices in which a record is written, a number in each.
abbrev pub set_lent : Lent → ℕ → Record → Lent
set_lent s at r = lent (set s.regions at r.region) (set s.marks at r.mark) (set s.values at r.value.0) (set s.colours at r.colour.0) (set s.slots at r.slot.0)

-- A place of each of the five slices.
pub record IsWithin (at : ℕ) (s : Lent) : Type 0 where
  pub in_regions : at < length s.regions
  pub in_marks : at < length s.marks
  pub in_values : at < length s.values
  pub in_colours : at < length s.colours
  pub in_slots : at < length s.slots

-- All numbers are 0: a list of idle, unmarked plugins.
abbrev pub cleared : Lent → Lent
cleared s =
    lent (replicate (length s.regions) 0) (replicate (length s.marks) 0) (replicate (length s.values) 0) (replicate (length s.colours) 0)
    (replicate (length s.slots) 0)
