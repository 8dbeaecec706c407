-- A.9, the calls of the numbered gate: what each answers and leaves, refusals in document 01's order, with document 02's places (A.1), turns handed
-- back (A.2) and 11 last in take and leave. It has no slots, its open names no year, and a look answers a plain yes or no.
use Rattle.std.specs.Prelude.{Result, Ok, Err, ℕ, ◌+◌, ◌-◌, Bool, true, false, not, cond, ◌&&◌, ◌||◌, List, [], ◌∷◌, get_or, length, set, replicate, eqb, ltb}
use Rattle.numbered.specs.declared.NumberedGate.{NumberedGate}
use Rattle.numbered.specs.declared.NumberedRecord.{NumberedRecord}
use Rattle.model.specs.declared.Answer.{Answer}
use Rattle.model.specs.declared.Answer.TheVariants.{Took, Looked, Placed, Done}
use Rattle.model.specs.declared.Refusal.{Refusal}
use Rattle.model.specs.declared.Call.{Call}
use Rattle.model.specs.declared.Call.TheVariants.{Take, Look, Leave, Place, Stop, Wake}
use Rattle.model.specs.declared.Refusal.TheVariants.{OutOfRange, WrongLength, NotSound, NoSuchPlugin, IsStopped, WrongRegion, NotStopped, NotYetValid, CounterFull}
use Rattle.model.specs.Refusals.{refusal_number}
use Rattle.model.specs.Calls.{Step, step}
use Rattle.numbered.specs.Sound.{is_idle, is_waiting, not_above_valid, sizes_allowed, sound_numbered}

-- The greatest value of a counter: "11, a counter is already 18,446,744,073,709,551,615 and the call would raise it".
abbrev pub greatest : ℕ
greatest = 18446744073709551615

-- A ticket, yes or no, a place, done, or refused.
abbrev pub NumberedAnswered : Type 0
NumberedAnswered = Result (Answer ℕ Bool ℕ) Refusal

-- What an answer shows: a refused call only its number, an accepted one the number 0.
pub record NumberedShown : Type 0 where
  pub number : ℕ
  pub ticket : ℕ
  pub yes : Bool
  pub place : ℕ

abbrev pub shown_numbered : NumberedAnswered → NumberedShown
shown_numbered (Ok (Took t)) = record { number = 0; ticket = t; yes = false; place = 0 }
shown_numbered (Ok (Looked v)) = record { number = 0; ticket = 0; yes = v; place = 0 }
shown_numbered (Ok (Placed n)) = record { number = 0; ticket = 0; yes = false; place = n }
shown_numbered (Ok Done) = record { number = 0; ticket = 0; yes = false; place = 0 }
shown_numbered (Err refusal) = record { number = refusal_number refusal; ticket = 0; yes = false; place = 0 }

-- What a call leaves of the words and the list, and its answer.
pub record NumberedOutcome : Type 0 where
  pub gate : NumberedGate
  pub list : List NumberedRecord
  pub answer : NumberedAnswered

abbrev pub words : ℕ → ℕ → ℕ → ℕ → NumberedGate
words n k issue valid = record { n = n; k = k; issue = issue; valid = valid }

abbrev pub numbered_record : ℕ → ℕ → ℕ → NumberedRecord
numbered_record region mark t = record { region = region; mark = mark; ticket = t }

abbrev pub idle_numbered : NumberedRecord
idle_numbered = numbered_record 0 0 0

-- "Plugins are numbered from 1."
abbrev pub record_at : List NumberedRecord → ℕ → NumberedRecord
record_at l p = get_or l (p - 1) idle_numbered

abbrev pub with_record_at : List NumberedRecord → ℕ → NumberedRecord → List NumberedRecord
with_record_at l p r = set l (p - 1) r

-- A refusal of this kind if the test passes, and nothing lent is changed; else what follows.
abbrev pub refuse_numbered : Bool → Refusal → NumberedGate → List NumberedRecord → NumberedOutcome → NumberedOutcome
refuse_numbered true r g l o = record { gate = g; list = l; answer = Err r }
refuse_numbered false r g l o = o

-- An accepted open: "ISSUE and VALID are 64-bit counters starting at 0 and k"; all records idle and unmarked.
abbrev pub opened_numbered : ℕ → ℕ → NumberedOutcome
opened_numbered n k = record { gate = words n k 0 k; list = replicate n idle_numbered; answer = Ok Done }

-- A refused open was given no words to keep: it returns words that are all 0.
abbrev pub no_numbered_gate : NumberedGate
no_numbered_gate = words 0 0 0 0

-- "Open (N, k). 1: N or k out of range. 2: the list's length is not N."
unfoldable pub open_numbered : ℕ → ℕ → List NumberedRecord → NumberedOutcome
open_numbered n k l =
    refuse_numbered (not (sizes_allowed n k)) OutOfRange no_numbered_gate l
    (refuse_numbered (not (eqb (length l) n)) WrongLength no_numbered_gate l (opened_numbered n k))

-- An accepted take: ISSUE goes up by 1, the result is the plugin's ticket, and p waits.
unfoldable pub taken_numbered : NumberedGate → List NumberedRecord → ℕ → NumberedOutcome
taken_numbered g l p =
    let t = g.issue + 1 in
    record { gate = words g.n g.k t g.valid; list = with_record_at l p (numbered_record 1 (record_at l p).mark t); answer = Ok (Took t) }

-- An accepted look: "Yes puts p inside; no changes nothing and is not a refusal."
unfoldable pub looked_numbered : NumberedGate → List NumberedRecord → ℕ → NumberedOutcome
looked_numbered g l p =
    let r = record_at l p in
    cond (not_above_valid g r.ticket)
    (record { gate = g; list = with_record_at l p (numbered_record 2 r.mark r.ticket); answer = Ok (Looked true) })
    (record { gate = g; list = l; answer = Ok (Looked false) })

-- An accepted leave: VALID goes up by 1, "p is idle, its ticket gone."
unfoldable pub left_numbered : NumberedGate → List NumberedRecord → ℕ → NumberedOutcome
left_numbered g l p =
    record { gate = words g.n g.k g.issue (g.valid + 1); list = with_record_at l p (numbered_record 0 (record_at l p).mark 0); answer = Ok Done }

-- A.1: "the number of returns until the ticket is valid: 0 for a valid ticket, the distance for another".
unfoldable pub placed_numbered : NumberedGate → List NumberedRecord → ℕ → NumberedOutcome
placed_numbered g l p =
    let t = (record_at l p).ticket in
    record { gate = g; list = l; answer = Ok (Placed (cond (not_above_valid g t) 0 (t - g.valid))) }

-- An accepted stop (m is 1) or wake (m is 0): "Sets the mark; ticket and region remain." "Clears the mark."
unfoldable pub marked_numbered : ℕ → NumberedGate → List NumberedRecord → ℕ → NumberedOutcome
marked_numbered m g l p =
    let r = record_at l p in
    record { gate = g; list = with_record_at l p (numbered_record r.region m r.ticket); answer = Ok Done }

-- "a waiting plugin with an invalid ticket" (A.2)
abbrev pub waits_above : NumberedGate → NumberedRecord → Bool
waits_above g r = is_waiting r && not (not_above_valid g r.ticket)

-- The refusals of each call after 4, in the papers' order, and the accepted call; 11 "last in take and leave".
unfoldable pub called_numbered : Call → NumberedGate → List NumberedRecord → ℕ → NumberedOutcome
-- "Take (p). .. 5: p is stopped. 6: p is not idle."
called_numbered Take g l p =
    refuse_numbered (eqb (record_at l p).mark 1) IsStopped g l
    (refuse_numbered (not (eqb (record_at l p).region 0)) WrongRegion g l
    (refuse_numbered (eqb g.issue greatest) CounterFull g l (taken_numbered g l p)))
-- "Look (p). 4, 5, then 6: p is not waiting."
called_numbered Look g l p =
    refuse_numbered (eqb (record_at l p).mark 1) IsStopped g l
    (refuse_numbered (not (eqb (record_at l p).region 1)) WrongRegion g l (looked_numbered g l p))
-- "Leave (p). 4, 5, then 6", and A.2: "9, leave by a waiting plugin with an invalid ticket, after 5; leave's 6 is now for idle plugins only."
called_numbered Leave g l p =
    refuse_numbered (eqb (record_at l p).mark 1) IsStopped g l
    (refuse_numbered (is_idle (record_at l p)) WrongRegion g l
    (refuse_numbered (waits_above g (record_at l p)) NotYetValid g l
    (refuse_numbered (eqb g.valid greatest) CounterFull g l (left_numbered g l p))))
-- "Place (p). 4, 5, then 6: p is not waiting."
called_numbered Place g l p =
    refuse_numbered (eqb (record_at l p).mark 1) IsStopped g l
    (refuse_numbered (not (eqb (record_at l p).region 1)) WrongRegion g l (placed_numbered g l p))
-- "Stop (p). 4, then 5: already stopped."
called_numbered Stop g l p = refuse_numbered (eqb (record_at l p).mark 1) IsStopped g l (marked_numbered 1 g l p)
-- "Wake (p). 4, then 7: not stopped."
called_numbered Wake g l p = refuse_numbered (eqb (record_at l p).mark 0) NotStopped g l (marked_numbered 0 g l p)

-- A call: "2: the list's length differs from the word N. 3: not sound." "Then 4: p is 0 or above N."
unfoldable pub call_numbered : Call → NumberedGate → List NumberedRecord → ℕ → NumberedOutcome
call_numbered c g l p =
    refuse_numbered (not (eqb (length l) g.n)) WrongLength g l
    (refuse_numbered (not (sound_numbered g l)) NotSound g l
    (refuse_numbered (eqb p 0 || ltb g.n p) NoSuchPlugin g l (called_numbered c g l p)))

-- What a list of calls leaves.
unfoldable pub after_numbered : NumberedGate → List NumberedRecord → List Step → NumberedOutcome
after_numbered g l [] = record { gate = g; list = l; answer = Ok Done }
after_numbered g l (step c p ∷ s) = let o = call_numbered c g l p in after_numbered o.gate o.list s
