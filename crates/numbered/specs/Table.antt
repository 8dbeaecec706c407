-- Runs of the numbered gate, worked by hand: document 01's twelve calls after `O 3 1`, places and leaves, and the end of the counters. And for each
-- sentence of soundness words and a list that only this sentence excludes.
use Rattle.std.specs.Prelude.{Ok, Err, ℕ, Bool, true, false, List, [], ◌∷◌}
use Rattle.numbered.specs.declared.NumberedGate.{NumberedGate}
use Rattle.numbered.specs.declared.NumberedRecord.{NumberedRecord}
use Rattle.model.specs.declared.Answer.TheVariants.{Took, Looked, Placed, Done}
use Rattle.model.specs.declared.Refusal.TheVariants.{CounterFull, IsStopped, NotYetValid, WrongRegion}
use Rattle.model.specs.declared.Call.TheVariants.{Take, Look, Leave, Place, Stop}
use Rattle.model.specs.Calls.{Step, step}
use Rattle.numbered.specs.Sound.{sound_numbered}
use Rattle.numbered.specs.Calls.{NumberedAnswered, call_numbered, numbered_record, words}

-- A row: the call's answer, ISSUE and VALID after it.
pub data NumberedRow : Type 0 where
  shows : NumberedAnswered → ℕ → ℕ → NumberedRow

-- The rows of a list of calls, each on what the one before left.
unfoldable pub numbered_rows : NumberedGate → List NumberedRecord → List Step → List NumberedRow
numbered_rows g l [] = []
numbered_rows g l (step c p ∷ s) =
    let o = call_numbered c g l p in
    shows o.answer o.gate.issue o.gate.valid ∷ numbered_rows o.gate o.list s

-- Document 01's twelve calls (`worked_calls` of the crate `model`), after `O 3 1`.
abbrev pub worked_numbers : List NumberedRow
worked_numbers =
    shows (Ok (Took 1)) 1 1
    ∷ shows (Ok (Took 2)) 2 1
    ∷ shows (Ok (Looked false)) 2 1
    ∷ shows (Ok (Took 3)) 3 1
    ∷ shows (Ok (Looked true)) 3 1
    ∷ shows (Ok (Looked false)) 3 1
    ∷ shows (Ok Done) 3 2
    ∷ shows (Ok (Looked true)) 3 2
    ∷ shows (Ok Done) 3 3
    ∷ shows (Err WrongRegion) 3 3
    ∷ shows (Ok (Looked true)) 3 3
    ∷ shows (Ok Done) 3 4
    ∷ []

-- Places (`place_calls`), after `O 4 2`.
abbrev pub place_numbers : List NumberedRow
place_numbers =
    shows (Ok (Took 1)) 1 2
    ∷ shows (Ok (Took 2)) 2 2
    ∷ shows (Ok (Took 3)) 3 2
    ∷ shows (Ok (Took 4)) 4 2
    ∷ shows (Ok (Placed 0)) 4 2
    ∷ shows (Ok (Placed 1)) 4 2
    ∷ shows (Ok (Placed 2)) 4 2
    ∷ shows (Ok (Looked true)) 4 2
    ∷ shows (Ok Done) 4 3
    ∷ shows (Ok (Placed 0)) 4 3
    ∷ shows (Ok (Placed 1)) 4 3
    ∷ []

-- Leaves (`leave_calls`), after `O 3 1`.
abbrev pub leave_numbers : List NumberedRow
leave_numbers =
    shows (Ok (Took 1)) 1 1
    ∷ shows (Ok (Took 2)) 2 1
    ∷ shows (Err NotYetValid) 2 1
    ∷ shows (Ok Done) 2 1
    ∷ shows (Err IsStopped) 2 1
    ∷ shows (Ok Done) 2 1
    ∷ shows (Ok Done) 2 1
    ∷ shows (Err IsStopped) 2 1
    ∷ shows (Ok Done) 2 1
    ∷ shows (Ok Done) 2 2
    ∷ shows (Err WrongRegion) 2 2
    ∷ shows (Ok (Placed 0)) 2 2
    ∷ shows (Ok Done) 2 3
    ∷ []

-- The end of the counters, N 2, k 1. ISSUE is 18,446,744,073,709,551,614 and VALID one behind it; plugin 1 is inside with VALID's ticket, and
-- plugin 2 waits with ISSUE's.
abbrev pub near_end : NumberedGate
near_end = words 2 1 18446744073709551614 18446744073709551613

abbrev pub near_end_list : List NumberedRecord
near_end_list = numbered_record 2 0 18446744073709551613 ∷ numbered_record 1 0 18446744073709551614 ∷ []

-- The last ticket is handed out and made valid; then takes and leaves that would raise a counter are answered 11, but the refusals before it come
-- first: 5 to a stopped plugin, 6 to a plugin in another region.
abbrev pub end_calls : List Step
end_calls =
    step Leave 1 ∷ step Take 1 ∷ step Take 1 ∷ step Leave 1 ∷ step Leave 2 ∷ step Take 2 ∷ step Leave 2 ∷ step Place 1 ∷ step Look 1 ∷ step Take 1
    ∷ step Leave 1 ∷ step Stop 1 ∷ step Leave 1 ∷ step Stop 2 ∷ step Take 2 ∷ []

abbrev pub end_rows : List NumberedRow
end_rows =
    shows (Ok Done) 18446744073709551614 18446744073709551614
    ∷ shows (Ok (Took 18446744073709551615)) 18446744073709551615 18446744073709551614
    ∷ shows (Err WrongRegion) 18446744073709551615 18446744073709551614
    ∷ shows (Err NotYetValid) 18446744073709551615 18446744073709551614
    ∷ shows (Ok Done) 18446744073709551615 18446744073709551615
    ∷ shows (Err CounterFull) 18446744073709551615 18446744073709551615
    ∷ shows (Err WrongRegion) 18446744073709551615 18446744073709551615
    ∷ shows (Ok (Placed 0)) 18446744073709551615 18446744073709551615
    ∷ shows (Ok (Looked true)) 18446744073709551615 18446744073709551615
    ∷ shows (Err WrongRegion) 18446744073709551615 18446744073709551615
    ∷ shows (Err CounterFull) 18446744073709551615 18446744073709551615
    ∷ shows (Ok Done) 18446744073709551615 18446744073709551615
    ∷ shows (Err IsStopped) 18446744073709551615 18446744073709551615
    ∷ shows (Ok Done) 18446744073709551615 18446744073709551615
    ∷ shows (Err IsStopped) 18446744073709551615 18446744073709551615
    ∷ []

-- Words and a list of N records that only one sentence of soundness excludes. Document 01's ranges: no plugins; 65 slots; a region 3; a stop mark 2.
abbrev pub out_of_range_cases : List Bool
out_of_range_cases =
    sound_numbered (words 0 1 0 1) []
    ∷ sound_numbered (words 1 65 0 65) (numbered_record 0 0 0 ∷ [])
    ∷ sound_numbered (words 1 1 1 1) (numbered_record 3 0 1 ∷ [])
    ∷ sound_numbered (words 1 1 0 1) (numbered_record 0 2 0 ∷ [])
    ∷ []

-- An idle record with ticket 1; ticket 1 held twice; ticket 1 held and ISSUE 0.
abbrev pub wrong_ticket_cases : List Bool
wrong_ticket_cases =
    sound_numbered (words 1 1 0 1) (numbered_record 0 0 1 ∷ [])
    ∷ sound_numbered (words 2 2 1 1) (numbered_record 2 0 1 ∷ numbered_record 2 0 1 ∷ [])
    ∷ sound_numbered (words 1 3 0 2) (numbered_record 2 0 1 ∷ [])
    ∷ []

-- Ticket 2, after VALID, held from inside; one ticket not above VALID where k is 2; ticket VALID, 2, not held.
abbrev pub wrong_lead_cases : List Bool
wrong_lead_cases =
    sound_numbered (words 2 1 2 1) (numbered_record 2 0 1 ∷ numbered_record 2 0 2 ∷ [])
    ∷ sound_numbered (words 2 2 1 1) (numbered_record 2 0 1 ∷ numbered_record 0 0 0 ∷ [])
    ∷ sound_numbered (words 1 1 2 2) (numbered_record 2 0 1 ∷ [])
    ∷ []

-- The lead's bounds follow from the other sentences where the list has N records. With more records only they exclude this: N 1, k 1, lead −1.
abbrev pub lead_bound_cases : List Bool
lead_bound_cases = sound_numbered (words 1 1 2 1) (numbered_record 2 0 1 ∷ numbered_record 1 0 2 ∷ []) ∷ []
