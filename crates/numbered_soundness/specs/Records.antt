-- Tests of one record: alone, and among the records after it.
use Rattle.std.specs.Prelude.{ℕ, Bool, ◌&&◌, List, drop, get_or, eqb, leb}
use Rattle.model.specs.Lists.{count, implies}
use Rattle.numbered.specs.declared.NumberedGate.{NumberedGate}
use Rattle.numbered.specs.declared.NumberedRecord.{NumberedRecord}
use Rattle.numbered.specs.Calls.{idle_numbered}
use Rattle.numbered.specs.Sound.{has_ticket, holds_number, is_idle}

-- The sentences of soundness that are about one record: its ranges, ticket 0 if it is idle, and no ticket above ISSUE.
unfoldable pub record_passes : NumberedGate → NumberedRecord → Bool
record_passes g r =
    leb r.region 2 && leb r.mark 1 && implies (is_idle r) (eqb r.ticket 0) && implies (has_ticket r) (leb r.ticket g.issue)

-- A record's ticket, if it holds one, is held once from there on: by none after it. Where that is so of all, the held tickets are distinct.
unfoldable pub held_last : List NumberedRecord → ℕ → Bool
held_last l at = let r = get_or l at idle_numbered in implies (has_ticket r) (leb (count (holds_number r.ticket) (drop at l)) 1)
