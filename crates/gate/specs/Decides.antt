-- What a call that names a plugin decides, of a list that is kept in whatever way: where a record changes, and what becomes of the words and of the record.
use Rattle.std.specs.Prelude.{ℕ, ◌≡◌, ◌<◌, Bool, true, false, List, length, set, Result, Ok, Err, IfOk, IfErr}
use Rattle.model.specs.declared.Answer.{Answer}
use Rattle.model.specs.declared.Call.{Call}
use Rattle.model.specs.declared.Effect.{Effect}
use Rattle.model.specs.declared.Gate.{Gate}
use Rattle.model.specs.declared.Record.{Record}
use Rattle.model.specs.declared.Refusal.{Refusal}
use Rattle.model.specs.declared.Refusal.TheVariants.{WrongLength}
use Rattle.model.specs.declared.Reply.{Reply}
use Rattle.model.specs.declared.Ticket.{Ticket}
use Rattle.model.specs.declared.Verdict.{Verdict}
use Rattle.lists.specs.Columns.{IsWithin, set_lent}
use Rattle.model.specs.Calls.{Outcome, call}
use Rattle.model.specs.Slices.{Lent, Meets, call_lent}

abbrev pub Decision : Type 0
Decision = Result (ℕ × Effect Record (Answer Ticket Verdict ℕ)) Refusal

-- The outcome of a decision on the list l that leaves the words g: one record is replaced, or none.
abbrev pub decided : Gate → List Record → Decision → Outcome
decided g l (Ok (at, e)) = record { gate = g; list = set l at e.record; answer = Ok e.answer }
decided g l (Err r) = record { gate = g; list = l; answer = Err r }

-- A list whose length is not N is refused as 2; of any other the decision d and the words g' that it leaves are the call's outcome.
pub record Decides (has_length : Bool) (c : Call) (g : Gate) (l : List Record) (p : ℕ) (g' : Gate) (d : Decision) : Type 0 where
  pub wrong_length : has_length ≡ false → d ≡ Err WrongLength
  pub as_called : has_length ≡ true → decided g' l d ≡ call c g l p
  pub within : IfOk d (λ change. (has_length ≡ true) × (change.0 < length l))
  pub refused : IfErr d (λ refusal. g' ≡ g)

-- The same decision of a list that is lent as five slices: a refusal leaves the words and meets the call as it is; a change does once its record is written.
abbrev pub DecidesLent : Call → Gate → Lent → ℕ → Gate → Decision → Type 0
DecidesLent c g s p g' (Ok (at, e)) = IsWithin at s × Meets (call_lent c g s p) g' (Ok e.answer) (set_lent s at e.record)
DecidesLent c g s p g' (Err r) = (g' ≡ g) × Meets (call_lent c g s p) g (Err r) s

-- The same where the words are not lent: the record that changes, and the reply, which has the words that are left.
abbrev pub RepliesLent : Call → Gate → Lent → ℕ → Result (ℕ × (Record × Reply Gate (Answer Ticket Verdict ℕ))) Refusal → Type 0
RepliesLent c g s p (Ok (at, (r, reply))) = IsWithin at s × Meets (call_lent c g s p) reply.gate (Ok reply.answer) (set_lent s at r)
RepliesLent c g s p (Err e) = Meets (call_lent c g s p) g (Err e) s
