-- What the calls' functions promise each other: how every call that names a plugin begins, and what a call makes of its plugin's record.
use Rattle.std.specs.Prelude.{ℕ, ◌≡◌, ◌-◌, ◌<◌, Bool, true, cond, ◌||◌, List, [], ◌∷◌, get_or, length, eqb, ltb, Result, Ok, Err}
use Rattle.model.specs.declared.Answer.{Answer}
use Rattle.model.specs.declared.Call.{Call}
use Rattle.model.specs.declared.Effect.{Effect}
use Rattle.model.specs.declared.Gate.{Gate}
use Rattle.model.specs.declared.Record.{Record}
use Rattle.model.specs.declared.Refusal.{Refusal}
use Rattle.model.specs.declared.Refusal.TheVariants.{NoSuchPlugin, NotSound, WrongLength}
use Rattle.model.specs.declared.Ticket.{Ticket}
use Rattle.model.specs.declared.Verdict.{Verdict}
use Rattle.model.specs.Calls.{Outcome, called, idle_record}
use Rattle.model.specs.Sound.{sound}

-- Refusals 2, 3 and 4, in this order, by whether the list has the length N, whether it is sound with the words, N and p; or p's place in the list.
unfoldable pub begins : Bool → Bool → ℕ → ℕ → Result ℕ Refusal
begins has_length is_sound n p =
    cond has_length (cond is_sound (cond (eqb p 0 || ltb n p) (Err NoSuchPlugin) (Ok (p - 1))) (Err NotSound)) (Err WrongLength)

-- A record of a list that is sound with the words g.
pub record OfSound (g : Gate) (r : Record) : Type 0 where
  pub list : List Record
  pub place : ℕ
  pub is_sound : sound g list ≡ true
  pub within : place < length list
  pub is : get_or list place idle_record ≡ r

-- A call reads and writes no record but its plugin's. So what it makes of the record r, from refusal 5 on, is what it makes of a list of r alone.
abbrev pub alone : Call → Gate → Record → Outcome
alone c g r = called c g (r ∷ []) 1

-- The same, of what a call's function returns, and the words g that it leaves where they were lent; r is the record that it was given.
abbrev pub outcome_of : Gate → Record → Result (Effect Record (Answer Ticket Verdict ℕ)) Refusal → Outcome
outcome_of g r (Ok e) = record { gate = g; list = e.record ∷ []; answer = Ok e.answer }
outcome_of g r (Err refusal) = record { gate = g; list = r ∷ []; answer = Err refusal }
