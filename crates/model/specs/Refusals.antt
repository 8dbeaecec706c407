-- What a call answers, and the numbers of the refusals: document 01's, and 9, 10 and 11 of document 02 (A.2, A.8, A.9).
use Rattle.std.specs.Prelude.{ℕ, Result}
use Rattle.model.specs.declared.Answer.{Answer}
use Rattle.model.specs.declared.Ticket.{Ticket}
use Rattle.model.specs.declared.Verdict.{Verdict}
use Rattle.model.specs.declared.Refusal.{Refusal}
use Rattle.model.specs.declared.Refusal.TheVariants.{OutOfRange, WrongLength, NotSound, NoSuchPlugin, IsStopped, WrongRegion, NotStopped, BadLine, NotYetValid, TooManySlots, CounterFull}

-- Of an open: "N or k out of range"; "another year" (A.8).
abbrev pub out_of_range : ℕ
out_of_range = 1

-- "the list's length differs from the word N"
abbrev pub wrong_length : ℕ
wrong_length = 2

-- "not sound"
abbrev pub not_sound : ℕ
not_sound = 3

-- "p is 0 or above N"
abbrev pub no_such_plugin : ℕ
no_such_plugin = 4

-- "p is stopped"; of a stop: "already stopped"
abbrev pub is_stopped : ℕ
is_stopped = 5

-- "p is not idle" (take), "not waiting" (look, place); "leave's 6 is now for idle plugins only" (A.2)
abbrev pub wrong_region : ℕ
wrong_region = 6

-- Of a wake: "not stopped".
abbrev pub not_stopped : ℕ
not_stopped = 7

-- Of next call: "the part doesn't begin with a line of the grammar".
abbrev pub bad_line : ℕ
bad_line = 8

-- Of a leave: "by a waiting plugin with an invalid ticket" (A.2).
abbrev pub not_yet_valid : ℕ
not_yet_valid = 9

-- Of an open: "for 1979 with k not below N" (A.8).
abbrev pub too_many_slots : ℕ
too_many_slots = 10

-- Of a call of the numbered gate (A.9): the counter that it would raise has its greatest value.
abbrev pub counter_full : ℕ
counter_full = 11

-- The number of each refusal.
abbrev pub refusal_number : Refusal → ℕ
refusal_number OutOfRange = out_of_range
refusal_number WrongLength = wrong_length
refusal_number NotSound = not_sound
refusal_number NoSuchPlugin = no_such_plugin
refusal_number IsStopped = is_stopped
refusal_number WrongRegion = wrong_region
refusal_number NotStopped = not_stopped
refusal_number BadLine = bad_line
refusal_number NotYetValid = not_yet_valid
refusal_number TooManySlots = too_many_slots
refusal_number CounterFull = counter_full

-- "The answer to a call is one of: ticket, yes or no, place, done, or refused."
abbrev pub Answered : Type 0
Answered = Result (Answer Ticket Verdict ℕ) Refusal
