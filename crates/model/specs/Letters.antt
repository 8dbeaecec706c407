-- The letters of the calls, and a list of calls as it is lent: a letter for each call, and a plugin number for each.
use Rattle.std.specs.Prelude.{ℕ, Bool, true, false, cond, get_or, Option, None, Some, Result, Ok, Err}
use mathlib.Core.List.{List, [], ◌∷◌, tail}
use Rattle.model.specs.declared.Call.{Call}
use Rattle.model.specs.declared.Call.TheVariants.{Take, Look, Leave, Place, Stop, Wake}
use Rattle.model.specs.declared.Line.{Line}
use Rattle.model.specs.declared.Line.TheVariants.{Open, Plugin}
use Rattle.model.specs.declared.Refusal.{Refusal}
use Rattle.model.specs.declared.Refusal.TheVariants.{BadLine}
use Rattle.model.specs.Calls.{Step, step}
use Rattle.model.specs.Schedule.{call_line}

-- Whether there is a line, and it is a call's; and which call's. Of no other line is the call ever asked.
abbrev pub is_call : Option Line → Bool
is_call None = false
is_call (Some (Open n k)) = false
is_call (Some (Plugin c p)) = true

abbrev pub call_of : Option Line → Call
call_of None = Wake
call_of (Some (Open n k)) = Wake
call_of (Some (Plugin c p)) = c

-- "Letters: T take, L look, B leave, P place, S stop, W wake", as the grammar of a line has them.
unfoldable pub is_letter : ℕ → Bool
is_letter b = is_call (call_line b 0)

unfoldable pub letter_call : ℕ → Call
letter_call b = call_of (call_line b 0)

-- The call that a letter names, or the refusal of one that names none.
abbrev pub named_call : ℕ → Result Call Refusal
named_call b = cond (is_letter b) (Ok (letter_call b)) (Err BadLine)

-- The letter of a call.
abbrev pub call_letter : Call → ℕ
call_letter Take = 84
call_letter Look = 76
call_letter Leave = 66
call_letter Place = 80
call_letter Stop = 83
call_letter Wake = 87

-- The calls that letters and plugin numbers make: as many as there are letters.
unfoldable pub steps_of : List ℕ → List ℕ → List Step
steps_of [] ps = []
steps_of (b ∷ bs) ps = step (letter_call b) (get_or ps 0 0) ∷ steps_of bs (tail ps)
