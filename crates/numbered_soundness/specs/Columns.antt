-- A list as three slices that are lent: what they hold, and what it is to write a record there.
use Rattle.std.specs.Prelude.{ℕ, ◌≡◌, ◌<◌, List, length, replicate, set}
use Rattle.numbered.specs.declared.NumberedRecord.{NumberedRecord}
use Rattle.numbered.specs.Slices.{NumberedLent, numbered_lent, numbered_records_of}
use Rattle.numbered_soundness.specs.declared.columns.NumberedColumns.{NumberedColumns}
use Rattle.numbered_soundness.specs.declared.columns_mut.NumberedColumnsMut.{NumberedColumnsMut}

-- What three slices hold that are lent for reading, and their records.
abbrev pub numbered_in : NumberedColumns → NumberedLent
numbered_in c = numbered_lent c.regions.now c.marks.now c.tickets.now

abbrev pub records_in : NumberedColumns → List NumberedRecord
records_in c = numbered_records_of (numbered_in c)

-- What three slices hold that are lent for writing.
abbrev pub numbered_lent_in : NumberedColumnsMut → NumberedLent
numbered_lent_in c = numbered_lent c.regions.now c.marks.now c.tickets.now

-- They are the same slices, whatever they hold.
pub record SameColumns (c d : NumberedColumnsMut) : Type 0 where
  pub regions : d.regions.ghost_name ≡ c.regions.ghost_name
  pub marks : d.marks.ghost_name ≡ c.marks.ghost_name
  pub tickets : d.tickets.ghost_name ≡ c.tickets.ghost_name

-- Three slices in which a record is written, a number in each.
abbrev pub set_numbered : NumberedLent → ℕ → NumberedRecord → NumberedLent
set_numbered s at r = numbered_lent (set s.regions at r.region) (set s.marks at r.mark) (set s.tickets at r.ticket)

-- A place of each of the three slices.
pub record IsWithin (at : ℕ) (s : NumberedLent) : Type 0 where
  pub in_regions : at < length s.regions
  pub in_marks : at < length s.marks
  pub in_tickets : at < length s.tickets

-- All numbers are 0: a list of idle, unmarked plugins.
abbrev pub cleared : NumberedLent → NumberedLent
cleared s = numbered_lent (replicate (length s.regions) 0) (replicate (length s.marks) 0) (replicate (length s.tickets) 0)
