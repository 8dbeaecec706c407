-- A.9, what sound means for a numbered gate: one definition for each sentence, and `sound_numbered`, which is all of them.
use Rattle.std.specs.Prelude.{ℕ, suc, ◌+◌, ◌-◌, Bool, not, ◌&&◌, List, eqb, leb}
use Rattle.numbered.specs.declared.NumberedGate.{NumberedGate}
use Rattle.numbered.specs.declared.NumberedRecord.{NumberedRecord}
use Rattle.model.specs.Lists.{implies, count, all, any, numbers_from}

-- The lead, VALID less ISSUE, as two numbers of which one is 0: VALID is ahead of ISSUE, or behind it. If it is ahead, so many tickets are valid and
-- unissued; if behind, so many are issued and not yet valid.
abbrev pub ahead_by : NumberedGate → ℕ
ahead_by g = g.valid - g.issue

abbrev pub behind_by : NumberedGate → ℕ
behind_by g = g.issue - g.valid

-- "a ticket is valid when not above VALID"
abbrev pub not_above_valid : NumberedGate → ℕ → Bool
not_above_valid g t = leb t g.valid

-- Document 01's regions (0 idle, 1 waiting, 2 inside). A plugin that is not idle holds its record's ticket.
abbrev pub is_idle : NumberedRecord → Bool
is_idle r = eqb r.region 0

abbrev pub is_waiting : NumberedRecord → Bool
is_waiting r = eqb r.region 1

abbrev pub has_ticket : NumberedRecord → Bool
has_ticket r = not (is_idle r)

-- The record holds ticket t; it does, and its plugin waits.
abbrev pub holds_number : ℕ → NumberedRecord → Bool
holds_number t r = has_ticket r && eqb t r.ticket

abbrev pub awaits_number : ℕ → NumberedRecord → Bool
awaits_number t r = is_waiting r && eqb t r.ticket

-- "N is 1 to 1,024; k is 1 to 64 and may exceed N."
unfoldable pub sizes_allowed : ℕ → ℕ → Bool
sizes_allowed n k = leb 1 n && leb n 1024 && leb 1 k && leb k 64

-- "Sound means here: document 01's ranges;": of N and k; and a region is 0 to 2, a stop mark 0 or 1.
abbrev pub sizes_in_range : NumberedGate → Bool
sizes_in_range g = sizes_allowed g.n g.k

unfoldable pub regions_in_range : List NumberedRecord → Bool
regions_in_range l = all (λ r. leb r.region 2 && leb r.mark 1) l

-- "idle records with ticket 0;"
unfoldable pub idle_tickets_zero : List NumberedRecord → Bool
idle_tickets_zero l = all (λ r. implies (is_idle r) (eqb r.ticket 0)) l

-- "distinct held tickets,"
unfoldable pub held_distinct : List NumberedRecord → Bool
held_distinct l = all (λ r. implies (has_ticket r) (leb (count (holds_number r.ticket) l) 1)) l

-- "none above ISSUE;"
unfoldable pub held_issued : NumberedGate → List NumberedRecord → Bool
held_issued g l = all (λ r. implies (has_ticket r) (leb r.ticket g.issue)) l

-- "VALID less ISSUE within the lead's bounds;": at most k and at least −(N − k), or at least 0 if N is not above k.
unfoldable pub lead_within_bounds : NumberedGate → Bool
lead_within_bounds g = leb (ahead_by g) g.k && leb (behind_by g) (g.n - g.k)

-- "every ticket after VALID up to ISSUE held by a waiting plugin;"
unfoldable pub later_awaited : NumberedGate → List NumberedRecord → Bool
later_awaited g l = all (λ t. any (awaits_number t) l) (numbers_from (suc g.valid) (behind_by g))

-- "k held or unissued tickets not above VALID;"
unfoldable pub valid_number_k : NumberedGate → List NumberedRecord → Bool
valid_number_k g l = eqb (count (λ r. has_ticket r && not_above_valid g r.ticket) l + ahead_by g) g.k

-- "and, if VALID is not above ISSUE, ticket VALID held."
unfoldable pub last_valid_held : NumberedGate → List NumberedRecord → Bool
last_valid_held g l = implies (leb g.valid g.issue) (any (holds_number g.valid) l)

unfoldable pub sound_numbered : NumberedGate → List NumberedRecord → Bool
sound_numbered g l =
    sizes_in_range g && regions_in_range l && idle_tickets_zero l && held_distinct l && held_issued g l && lead_within_bounds g && later_awaited g l
    && valid_number_k g l && last_valid_held g l
