-- Document 01, "The calls": the six that name a plugin, with document 02's places (A.1), turns handed back (A.2) and slots (A.4). What each answers and
-- leaves, refusals in the paper's order. What looks at the block has it as its first argument, b, and asks of a gate only that its tickets are sound in it;
-- `call` is in the gate's own block, and asks that the slots are sound too.
use Rattle.std.specs.Prelude.{Ok, Err, ℕ, ◌+◌, ◌-◌, Bool, true, false, not, cond, ◌&&◌, ◌||◌, List, [], ◌∷◌, ◌++◌, map, get_or, length, set, replicate, eqb, ltb}
use Rattle.model.specs.declared.Ticket.{Ticket}
use Rattle.model.specs.declared.Gate.{Gate}
use Rattle.model.specs.declared.Record.{Record}
use Rattle.model.specs.declared.Call.{Call}
use Rattle.model.specs.declared.Call.TheVariants.{Take, Look, Leave, Place, Stop, Wake}
use Rattle.model.specs.declared.Verdict.TheVariants.{Yes, No}
use Rattle.model.specs.declared.Answer.TheVariants.{Took, Looked, Placed, Done}
use Rattle.model.specs.declared.Refusal.{Refusal}
use Rattle.model.specs.Lists.{numbers_from}
use Rattle.model.specs.declared.Refusal.TheVariants.{WrongLength, NotSound, NoSuchPlugin, IsStopped, WrongRegion, NotStopped, NotYetValid}
use Rattle.model.specs.Refusals.{Answered}
use Rattle.model.specs.Steps.{val, col, Block, block_of, moved, is_valid, returns_in}
use Rattle.model.specs.Sound.{idle, waiting, ticket_of, sound, sound_in}
use Rattle.model.specs.Rules.{rule_of}

-- What a call leaves of the words and the list, and its answer.
pub record Outcome : Type 0 where
  pub gate : Gate
  pub list : List Record
  pub answer : Answered

abbrev pub rec : ℕ → ℕ → ℕ → ℕ → ℕ → Record
rec region mark v c s = record { region = region; mark = mark; value = record { 0 = v }; colour = record { 0 = c }; slot = record { 0 = s } }

abbrev pub idle_record : Record
idle_record = rec 0 0 0 0 0

-- "Plugins are numbered from 1."
abbrev pub record_of : List Record → ℕ → Record
record_of l p = get_or l (p - 1) idle_record

abbrev pub with_record : List Record → ℕ → Record → List Record
with_record l p r = set l (p - 1) r

-- A refusal of this kind if the test passes, and nothing lent is changed; else what follows.
abbrev pub refuse : Bool → Refusal → Gate → List Record → Outcome → Outcome
refuse true r g l o = record { gate = g; list = l; answer = Err r }
refuse false r g l o = o

-- A row of free slots in the 64 places, "0 after the last".
abbrev pub free_row : List ℕ → List ℕ
free_row row = row ++ replicate (64 - length row) 0

-- The free slots of the 64 places: those before the first 0.
unfoldable pub free_slots : List ℕ → List ℕ
free_slots [] = []
free_slots (s ∷ free) = let rest = s ∷ free_slots free in cond (eqb s 0) [] rest

abbrev pub with_issue : Gate → Ticket → Gate
with_issue g t = record { year = g.year; n = g.n; k = g.k; issue = t; valid = g.valid; counts = g.counts; free = g.free }

abbrev pub with_valid : Gate → Ticket → List ℕ → Gate
with_valid g t cs = record { year = g.year; n = g.n; k = g.k; issue = g.issue; valid = t; counts = cs; free = g.free }

abbrev pub with_free : Gate → List ℕ → Gate
with_free g free = record { year = g.year; n = g.n; k = g.k; issue = g.issue; valid = g.valid; counts = g.counts; free = free }

abbrev pub count_up : List ℕ → ℕ → List ℕ
count_up cs c = set cs c (get_or cs c 0 + 1)

abbrev pub count_down : List ℕ → ℕ → List ℕ
count_down cs c = set cs c (get_or cs c 0 - 1)

-- "The slot returned longest ago goes out first": the head of the free row is given, and the other 63 places move up ..
abbrev pub head_slot : List ℕ → ℕ
head_slot free = get_or free 0 0

abbrev pub moved_up : List ℕ → List ℕ
moved_up free = map (λ i. get_or free i 0) (numbers_from 1 63) ++ (0 ∷ [])

-- .. and a slot comes back after the last free one. Who has none, 0, returns none.
abbrev pub returned : List ℕ → ℕ → List ℕ
returned free s = cond (eqb s 0) free (set free (length (free_slots free)) s)

-- An accepted take (TAKE_NEXT_TICKET of Figure 7): ISSUE moves, "the result is the plugin's ticket", and p waits.
unfoldable pub taken_in : Block → Gate → List Record → ℕ → Outcome
taken_in b g l p =
    let t = moved b g g.issue g.valid in
    record { gate = with_issue g t; list = with_record l p (rec 1 (record_of l p).mark (val t) (col t) (record_of l p).slot.0); answer = Ok (Took t) }

-- An accepted look: "Yes puts p inside; no changes nothing and is not a refusal." "A look that answers yes gives the slot." Each
-- answers with the rule that applied.
unfoldable pub looked : Gate → List Record → ℕ → Outcome
looked g l p =
    let r = record_of l p in
    cond (is_valid g (ticket_of r))
    (record {
      gate = with_free g (moved_up g.free);
      list = with_record l p (rec 2 r.mark r.value.0 r.colour.0 (head_slot g.free));
      answer = Ok (Looked (Yes (record { 0 = head_slot g.free }) (rule_of g (ticket_of r))));
    })
    (record { gate = g; list = l; answer = Ok (Looked (No (rule_of g (ticket_of r)))) })

-- An accepted leave: "VALID moves by the same rule with ISSUE and VALID exchanged. Then 1 is added to the count of VALID's colour, and 1
-- taken from the count of the ticket's colour, in that order." "p is idle, its ticket gone." Its slot, if it has one, is free again: "A
-- handed-back turn returns no slot."
unfoldable pub left_in : Block → Gate → List Record → ℕ → Outcome
left_in b g l p =
    let r = record_of l p in
    let t = moved b g g.valid g.issue in
    record {
      gate = with_free (with_valid g t (count_down (count_up g.counts (col t)) r.colour.0)) (returned g.free r.slot.0);
      list = with_record l p (rec 0 r.mark 0 0 0);
      answer = Ok Done;
    }

-- A.1: "A place is now the number of returns until the ticket is valid".
unfoldable pub placed_in : Block → Gate → List Record → ℕ → Outcome
placed_in b g l p =
    record { gate = g; list = l; answer = Ok (Placed (returns_in b g (ticket_of (record_of l p)))) }

-- An accepted stop (m is 1) or wake (m is 0): "Sets the mark; ticket and region remain." "Clears the mark."
unfoldable pub marked : ℕ → Gate → List Record → ℕ → Outcome
marked m g l p =
    let r = record_of l p in
    record { gate = g; list = with_record l p (rec r.region m r.value.0 r.colour.0 r.slot.0); answer = Ok Done }

-- "a waiting plugin with an invalid ticket" (A.2)
abbrev pub waits_invalid : Gate → Record → Bool
waits_invalid g r = waiting r && not (is_valid g (ticket_of r))

-- The refusals of each call after 4, in the paper's order, and the accepted call.
unfoldable pub called_in : Block → Call → Gate → List Record → ℕ → Outcome
-- "Take (p). .. 5: p is stopped. 6: p is not idle."
called_in b Take g l p =
    refuse (eqb (record_of l p).mark 1) IsStopped g l
    (refuse (not (eqb (record_of l p).region 0)) WrongRegion g l (taken_in b g l p))
-- "Look (p). 4, 5, then 6: p is not waiting."
called_in b Look g l p =
    refuse (eqb (record_of l p).mark 1) IsStopped g l
    (refuse (not (eqb (record_of l p).region 1)) WrongRegion g l (looked g l p))
-- "Leave (p). 4, 5, then 6", and A.2: "Leave is now accepted also from a waiting plugin with a valid ticket, with the same effect. .. 9, leave
-- by a waiting plugin with an invalid ticket, after 5; leave's 6 is now for idle plugins only."
called_in b Leave g l p =
    refuse (eqb (record_of l p).mark 1) IsStopped g l
    (refuse (idle (record_of l p)) WrongRegion g l
    (refuse (waits_invalid g (record_of l p)) NotYetValid g l (left_in b g l p)))
-- "Place (p). 4, 5, then 6: p is not waiting."
called_in b Place g l p =
    refuse (eqb (record_of l p).mark 1) IsStopped g l
    (refuse (not (eqb (record_of l p).region 1)) WrongRegion g l (placed_in b g l p))
-- "Stop (p). 4, then 5: already stopped."
called_in b Stop g l p = refuse (eqb (record_of l p).mark 1) IsStopped g l (marked 1 g l p)
-- "Wake (p). 4, then 7: not stopped."
called_in b Wake g l p = refuse (eqb (record_of l p).mark 0) NotStopped g l (marked 0 g l p)

-- "Every later call but the last two begins with these. 2: the list's length differs from the word N. 3: not sound." "Then 4: p is 0 or
-- above N."
abbrev pub begun : Bool → Gate → List Record → ℕ → Outcome → Outcome
begun isSound g l p o =
    refuse (not (eqb (length l) g.n)) WrongLength g l
    (refuse (not isSound) NotSound g l (refuse (eqb p 0 || ltb g.n p) NoSuchPlugin g l o))

-- A call in any block, on a gate whose tickets are sound.
unfoldable pub call_in : Block → Call → Gate → List Record → ℕ → Outcome
call_in b c g l p = begun (sound_in b g l) g l p (called_in b c g l p)

-- The same in the gate's own block.
abbrev pub taken : Gate → List Record → ℕ → Outcome
taken g l p = taken_in (block_of g) g l p

abbrev pub left : Gate → List Record → ℕ → Outcome
left g l p = left_in (block_of g) g l p

abbrev pub placed : Gate → List Record → ℕ → Outcome
placed g l p = placed_in (block_of g) g l p

abbrev pub called : Call → Gate → List Record → ℕ → Outcome
called c g l p = called_in (block_of g) c g l p

-- A call, on a sound gate.
unfoldable pub call : Call → Gate → List Record → ℕ → Outcome
call c g l p = begun (sound g l) g l p (called c g l p)

-- A call of a list of calls: its name and its plugin number.
pub data Step : Type 0 where
  step : Call → ℕ → Step

-- What a list of calls leaves.
unfoldable pub after : Gate → List Record → List Step → Outcome
after g l [] = record { gate = g; list = l; answer = Ok Done }
after g l (step c p ∷ s) = let o = call c g l p in after o.gate o.list s

-- The same in any block, one for all the calls.
unfoldable pub after_in : Block → Gate → List Record → List Step → Outcome
after_in b g l [] = record { gate = g; list = l; answer = Ok Done }
after_in b g l (step c p ∷ s) = let o = call_in b c g l p in after_in b o.gate o.list s
