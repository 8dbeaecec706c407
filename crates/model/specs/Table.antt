-- Document 01's worked table (†): the twelve calls after `O 3 1`, and what the paper prints for each. And further runs: two in which the order
-- of the two counts in a leave shows, one with places, one with turns handed back, one with slots, one with the third rule, one of 1979;
-- and what open says of years, and soundness.
use Rattle.std.specs.Prelude.{Ok, Err, ℕ, Bool, true, false, List, [], ◌∷◌, replicate}
use Rattle.model.specs.declared.Ticket.{Ticket}
use Rattle.model.specs.declared.Gate.{Gate}
use Rattle.model.specs.declared.Record.{Record}
use Rattle.model.specs.declared.Call.TheVariants.{Take, Look, Leave, Place, Stop, Wake}
use Rattle.model.specs.declared.Value.{Value}
use Rattle.model.specs.declared.Colour.{Colour}
use Rattle.model.specs.declared.Slot.{Slot}
use Rattle.model.specs.declared.Rule.TheVariants.{NotAbove, Above, Counted, NotCounted}
use Rattle.model.specs.declared.Verdict.TheVariants.{Yes, No}
use Rattle.model.specs.declared.Answer.TheVariants.{Took, Looked, Placed, Done}
use Rattle.model.specs.declared.Refusal.TheVariants.{IsStopped, NotYetValid, WrongRegion}
use Rattle.model.specs.Refusals.{Answered}
use Rattle.model.specs.Steps.{ticket}
use Rattle.model.specs.Sound.{sound}
use Rattle.model.specs.Calls.{Step, call, idle_record, step}
use Rattle.model.specs.Opening.{open_gate, opened, opening}
use Rattle.model.specs.Shown.{shown}
use Rattle.model.specs.Claim.{SlotEntry}

-- A row: the call's number, its answer, ISSUE and VALID after it.
pub data Row : Type 0 where
  shows : ℕ → Answered → Ticket → Ticket → Row

-- The rows of a list of calls, each on what the one before left.
unfoldable pub rows : Gate → List Record → List Step → List Row
rows g l [] = []
rows g l (step c p ∷ s) =
    let o = call c g l p in
    shows (shown o.answer).number o.answer o.gate.issue o.gate.valid ∷ rows o.gate o.list s

abbrev pub worked_calls : List Step
worked_calls =
    step Take 1 ∷ step Take 2 ∷ step Look 2 ∷ step Take 3 ∷ step Look 1 ∷ step Look 3 ∷ step Leave 1 ∷ step Look 2 ∷ step Leave 2 ∷ step Take 3
    ∷ step Look 3 ∷ step Leave 3 ∷ []

abbrev value : ℕ → Value
value v = record { 0 = v }

abbrev colour : ℕ → Colour
colour c = record { 0 = c }

abbrev slot : ℕ → Slot
slot s = record { 0 = s }

abbrev pub worked_rows : List Row
worked_rows =
    shows 0 (Ok (Took (ticket 1 0))) (ticket 1 0) (ticket 1 0)
    ∷ shows 0 (Ok (Took (ticket 2 0))) (ticket 2 0) (ticket 1 0)
    ∷ shows 0 (Ok (Looked (No (Above (value 2) (value 1))))) (ticket 2 0) (ticket 1 0)
    ∷ shows 0 (Ok (Took (ticket 0 1))) (ticket 0 1) (ticket 1 0)
    ∷ shows 0 (Ok (Looked (Yes (slot 1) (NotAbove (value 1) (value 1))))) (ticket 0 1) (ticket 1 0)
    ∷ shows 0 (Ok (Looked (No (NotCounted (colour 1) 0)))) (ticket 0 1) (ticket 1 0)
    ∷ shows 0 (Ok Done) (ticket 0 1) (ticket 2 0)
    ∷ shows 0 (Ok (Looked (Yes (slot 1) (NotAbove (value 2) (value 2))))) (ticket 0 1) (ticket 2 0)
    ∷ shows 0 (Ok Done) (ticket 0 1) (ticket 0 1)
    ∷ shows 6 (Err WrongRegion) (ticket 0 1) (ticket 0 1)
    ∷ shows 0 (Ok (Looked (Yes (slot 1) (NotAbove (value 0) (value 0))))) (ticket 0 1) (ticket 0 1)
    ∷ shows 0 (Ok Done) (ticket 0 1) (ticket 1 1)
    ∷ []

-- The third rule, at N 1, k 2: after these calls plugin 1's ticket is 2/0 and VALID 0/1, and the look is a yes by the count of colour 0.
abbrev pub counted_calls : List Step
counted_calls = step Take 1 ∷ step Look 1 ∷ step Leave 1 ∷ step Take 1 ∷ []

abbrev pub counted_row : List Row
counted_row = shows 0 (Ok (Looked (Yes (slot 2) (Counted (colour 0) 1)))) (ticket 2 0) (ticket 0 1) ∷ []

-- After `O 2 3` two plugins enter and leave, and one enters again: "The slot returned longest ago goes out first", so it gets slot 3. The last
-- returned would be 2, the lowest free 1.
abbrev pub slot_calls : List Step
slot_calls =
    step Take 1 ∷ step Take 2 ∷ step Look 1 ∷ step Look 2 ∷ step Leave 1 ∷ step Leave 2 ∷ step Take 1 ∷ step Look 1 ∷ step Leave 1 ∷ step Take 2 ∷ step Look 2 ∷ []

abbrev pub slot_row : ℕ → ℕ → ℕ → SlotEntry
slot_row given p1 p2 = record { given = given; slots = p1 ∷ p2 ∷ [] }

abbrev pub slot_rows : List SlotEntry
slot_rows =
    slot_row 0 0 0 ∷ slot_row 0 0 0 ∷ slot_row 1 1 0 ∷ slot_row 2 1 2 ∷ slot_row 0 0 2 ∷ slot_row 0 0 0 ∷ slot_row 0 0 0 ∷ slot_row 3 3 0 ∷ slot_row 0 0 0
    ∷ slot_row 0 0 0 ∷ slot_row 1 0 1 ∷ []

-- After `O 2 2` and these calls plugin 2 leaves (`order_row`), with the only ticket of colour 0, and VALID goes on to a new colour. Colour 0's
-- count is still 1 then, since it is taken down only after VALID has moved: VALID gets colour 1.
abbrev pub order_calls : List Step
order_calls =
    step Take 1 ∷ step Take 2 ∷ step Look 1 ∷ step Look 2 ∷ step Leave 1 ∷ step Take 1 ∷ step Look 1 ∷ step Leave 1 ∷ step Take 1 ∷ step Look 1 ∷ step Leave 1
    ∷ step Take 1 ∷ step Look 1 ∷ step Leave 1 ∷ step Take 1 ∷ step Look 1 ∷ step Leave 1 ∷ step Take 1 ∷ step Look 1 ∷ step Leave 1 ∷ []

abbrev pub order_row : List Row
order_row = shows 0 (Ok Done) (ticket 1 2) (ticket 0 1) ∷ []

-- The same calls without plugin 2's look: it still waits, with a valid ticket, and its leave hands back its turn (`order_row` again).
abbrev pub hand_back_calls : List Step
hand_back_calls =
    step Take 1 ∷ step Take 2 ∷ step Look 1 ∷ step Leave 1 ∷ step Take 1 ∷ step Look 1 ∷ step Leave 1 ∷ step Take 1 ∷ step Look 1 ∷ step Leave 1
    ∷ step Take 1 ∷ step Look 1 ∷ step Leave 1 ∷ step Take 1 ∷ step Look 1 ∷ step Leave 1 ∷ step Take 1 ∷ step Look 1 ∷ step Leave 1 ∷ []

-- Places after `O 4 2`: 0 for a plugin whose turn has come, 1 for the first in line, 2 for the next; each 1 less after a leave.
abbrev pub place_calls : List Step
place_calls =
    step Take 1 ∷ step Take 2 ∷ step Take 3 ∷ step Take 4 ∷ step Place 2 ∷ step Place 3 ∷ step Place 4 ∷ step Look 1 ∷ step Leave 1 ∷ step Place 3 ∷ step Place 4 ∷ []

abbrev pub place_rows : List Row
place_rows =
    shows 0 (Ok (Took (ticket 1 0))) (ticket 1 0) (ticket 2 0)
    ∷ shows 0 (Ok (Took (ticket 2 0))) (ticket 2 0) (ticket 2 0)
    ∷ shows 0 (Ok (Took (ticket 0 1))) (ticket 0 1) (ticket 2 0)
    ∷ shows 0 (Ok (Took (ticket 1 1))) (ticket 1 1) (ticket 2 0)
    ∷ shows 0 (Ok (Placed 0)) (ticket 1 1) (ticket 2 0)
    ∷ shows 0 (Ok (Placed 1)) (ticket 1 1) (ticket 2 0)
    ∷ shows 0 (Ok (Placed 2)) (ticket 1 1) (ticket 2 0)
    ∷ shows 0 (Ok (Looked (Yes (slot 1) (NotAbove (value 1) (value 2))))) (ticket 1 1) (ticket 2 0)
    ∷ shows 0 (Ok Done) (ticket 1 1) (ticket 0 1)
    ∷ shows 0 (Ok (Placed 0)) (ticket 1 1) (ticket 0 1)
    ∷ shows 0 (Ok (Placed 1)) (ticket 1 1) (ticket 0 1)
    ∷ []

-- Leaves after `O 3 1`: 9 for a waiting plugin whose ticket is not valid; 5 for a stopped one, whether its ticket is valid or not; accepted from
-- a waiting plugin whose turn has come, after which it is the next one's turn; 6 for an idle plugin.
abbrev pub leave_calls : List Step
leave_calls =
    step Take 1 ∷ step Take 2 ∷ step Leave 2 ∷ step Stop 2 ∷ step Leave 2 ∷ step Wake 2 ∷ step Stop 1 ∷ step Leave 1 ∷ step Wake 1 ∷ step Leave 1
    ∷ step Leave 1 ∷ step Place 2 ∷ step Leave 2 ∷ []

abbrev pub leave_rows : List Row
leave_rows =
    shows 0 (Ok (Took (ticket 1 0))) (ticket 1 0) (ticket 1 0)
    ∷ shows 0 (Ok (Took (ticket 2 0))) (ticket 2 0) (ticket 1 0)
    ∷ shows 9 (Err NotYetValid) (ticket 2 0) (ticket 1 0)
    ∷ shows 0 (Ok Done) (ticket 2 0) (ticket 1 0)
    ∷ shows 5 (Err IsStopped) (ticket 2 0) (ticket 1 0)
    ∷ shows 0 (Ok Done) (ticket 2 0) (ticket 1 0)
    ∷ shows 0 (Ok Done) (ticket 2 0) (ticket 1 0)
    ∷ shows 5 (Err IsStopped) (ticket 2 0) (ticket 1 0)
    ∷ shows 0 (Ok Done) (ticket 2 0) (ticket 1 0)
    ∷ shows 0 (Ok Done) (ticket 2 0) (ticket 2 0)
    ∷ shows 6 (Err WrongRegion) (ticket 2 0) (ticket 2 0)
    ∷ shows 0 (Ok (Placed 0)) (ticket 2 0) (ticket 2 0)
    ∷ shows 0 (Ok Done) (ticket 2 0) (ticket 0 1)
    ∷ []

-- A.8, by its rules: opened for 1979 with N 4 and k 2. The block has the 4 values 1 to 4 (in 1989 the 3 values 0 to 2); ISSUE is 1/0 and VALID 3/0,
-- so "the first ticket is 2/0", and after 4/0 comes 1/1. Place 4 is 2, from 3 by 4 to 1. The last look is a yes by the count of colour 0.
abbrev pub calls1979 : List Step
calls1979 =
    step Take 1 ∷ step Take 2 ∷ step Take 3 ∷ step Take 4 ∷ step Look 1 ∷ step Look 3 ∷ step Place 4 ∷ step Leave 1 ∷ step Look 3 ∷ step Leave 3 ∷ step Take 1
    ∷ step Look 4 ∷ step Leave 4 ∷ step Look 2 ∷ []

abbrev pub rows1979 : List Row
rows1979 =
    shows 0 (Ok (Took (ticket 2 0))) (ticket 2 0) (ticket 3 0)
    ∷ shows 0 (Ok (Took (ticket 3 0))) (ticket 3 0) (ticket 3 0)
    ∷ shows 0 (Ok (Took (ticket 4 0))) (ticket 4 0) (ticket 3 0)
    ∷ shows 0 (Ok (Took (ticket 1 1))) (ticket 1 1) (ticket 3 0)
    ∷ shows 0 (Ok (Looked (Yes (slot 1) (NotAbove (value 2) (value 3))))) (ticket 1 1) (ticket 3 0)
    ∷ shows 0 (Ok (Looked (No (Above (value 4) (value 3))))) (ticket 1 1) (ticket 3 0)
    ∷ shows 0 (Ok (Placed 2)) (ticket 1 1) (ticket 3 0)
    ∷ shows 0 (Ok Done) (ticket 1 1) (ticket 4 0)
    ∷ shows 0 (Ok (Looked (Yes (slot 2) (NotAbove (value 4) (value 4))))) (ticket 1 1) (ticket 4 0)
    ∷ shows 0 (Ok Done) (ticket 1 1) (ticket 1 1)
    ∷ shows 0 (Ok (Took (ticket 2 1))) (ticket 2 1) (ticket 1 1)
    ∷ shows 0 (Ok (Looked (Yes (slot 1) (NotAbove (value 1) (value 1))))) (ticket 2 1) (ticket 1 1)
    ∷ shows 0 (Ok Done) (ticket 2 1) (ticket 2 1)
    ∷ shows 0 (Ok (Looked (Yes (slot 2) (Counted (colour 0) 1)))) (ticket 2 1) (ticket 2 1)
    ∷ []

-- Opens by year, N, k and the list's length. "another year is refused as 1"; "10, open for 1979 with k not below N, after 1", and before 2.
abbrev open_number : ℕ → ℕ → ℕ → ℕ → ℕ
open_number year n k len = (shown (open_gate year n k (replicate len idle_record)).answer).number

abbrev pub open_numbers : List ℕ
open_numbers =
    open_number 1989 3 3 3 ∷ open_number 1979 3 2 3 ∷ open_number 1979 3 2 2 ∷ open_number 1978 3 2 3 ∷ open_number 1990 3 2 3 ∷ open_number 1979 3 3 3 ∷ open_number 1979 3 4 3
    ∷ open_number 1979 3 3 2 ∷ open_number 1979 0 2 3 ∷ []

abbrev pub open_refusals : List ℕ
open_refusals = 0 ∷ 0 ∷ 2 ∷ 1 ∷ 1 ∷ 10 ∷ 10 ∷ 10 ∷ 1 ∷ []

-- "Words of another year, or of 1979 with k not below N, are not sound": words as opened, with another year put in, and words of 1979 with k = N.
abbrev of_year : ℕ → Gate → Gate
of_year year g = record { year = year; n = g.n; k = g.k; issue = g.issue; valid = g.valid; counts = g.counts; free = g.free }

abbrev pub years_sound : List Bool
years_sound =
    sound (opening 1989 3 2) (opened 1989 3 2).list ∷ sound (of_year 1990 (opening 1989 3 2)) (opened 1989 3 2).list
    ∷ sound (opening 1979 3 2) (opened 1979 3 2).list ∷ sound (opening 1979 3 3) (opened 1979 3 3).list ∷ []

abbrev pub years_told : List Bool
years_told = true ∷ false ∷ true ∷ false ∷ []
