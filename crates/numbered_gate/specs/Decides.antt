-- What a call that names a plugin decides: where a record changes, and what becomes of the words and of the record. What it returns.
use Rattle.std.specs.Prelude.{ℕ, ◌≡◌, Bool, [], ◌∷◌, Result, Ok, Err, set}
use Rattle.model.specs.declared.Answer.{Answer}
use Rattle.model.specs.declared.Call.{Call}
use Rattle.model.specs.declared.Call.TheVariants.{Take, Look, Leave, Place, Stop, Wake}
use Rattle.model.specs.declared.Effect.{Effect}
use Rattle.model.specs.declared.Refusal.{Refusal}
use Rattle.model.specs.declared.Reply.{Reply}
use Rattle.model.specs.Replies.{answer_of, words_after}
use Rattle.numbered.specs.declared.NumberedGate.{NumberedGate}
use Rattle.numbered.specs.declared.NumberedRecord.{NumberedRecord}
use Rattle.numbered.specs.Calls.{NumberedOutcome, called_numbered}
use Rattle.numbered.specs.Slices.{NumberedLent, NumberedLentOutcome, NumberedMeets, call_numbered_lent}
use Rattle.numbered_soundness.specs.Columns.{IsWithin, set_numbered}

-- These stand beside the slot gate's (crates/begin/specs/Begin.antt), since each gate has outcomes of its own.
-- A call reads and writes no record but its plugin's. So what it makes of the record r, from refusal 5 on, is what it makes of a list of r alone.
abbrev pub alone : Call → NumberedGate → NumberedRecord → NumberedOutcome
alone c g r = called_numbered c g (r ∷ []) 1

-- What an accepted call makes of its plugin's record, and its answer.
abbrev pub Made : Type 0
Made = Effect NumberedRecord (Answer ℕ Bool ℕ)

-- The same as `alone`, of what a call's function returns, and the words g that it leaves where they were lent; r is the record that it was given.
abbrev pub outcome_of : NumberedGate → NumberedRecord → Result Made Refusal → NumberedOutcome
outcome_of g r (Ok e) = record { gate = g; list = e.record ∷ []; answer = Ok e.answer }
outcome_of g r (Err refusal) = record { gate = g; list = r ∷ []; answer = Err refusal }

-- The slices that a call leaves, whatever it writes of the record r: those of the fields that it does not change.
abbrev pub Leaves : Call → NumberedLent → ℕ → NumberedRecord → Type 0
Leaves Take s at r = set s.marks at r.mark ≡ s.marks
Leaves Look s at r = (set s.marks at r.mark ≡ s.marks) × (set s.tickets at r.ticket ≡ s.tickets)
Leaves Leave s at r = set s.marks at r.mark ≡ s.marks
Leaves Place s at r = set_numbered s at r ≡ s
Leaves Stop s at r = (set s.regions at r.region ≡ s.regions) × (set s.tickets at r.ticket ≡ s.tickets)
Leaves Wake s at r = (set s.regions at r.region ≡ s.regions) × (set s.tickets at r.ticket ≡ s.tickets)

-- A decision: the place of the record that changes, that record, and the reply.
abbrev pub Decision : Type 0
Decision = Result (ℕ × (NumberedRecord × Reply NumberedGate (Answer ℕ Bool ℕ))) Refusal

-- A refusal meets the call as it is; a change does once its record is written.
abbrev pub Decides : Call → NumberedGate → NumberedLent → ℕ → Decision → Type 0
Decides c g s p (Ok (at, (r, reply))) = IsWithin at s × NumberedMeets (call_numbered_lent c g s p) reply.gate (Ok reply.answer) (set_numbered s at r) × Leaves c s at r
Decides c g s p (Err refusal) = NumberedMeets (call_numbered_lent c g s p) g (Err refusal) s

-- What a call promises of what it returns and leaves, where the words before are g.
abbrev pub Returns : NumberedLentOutcome → NumberedGate → Result (Reply NumberedGate (Answer ℕ Bool ℕ)) Refusal → NumberedLent → Type 0
Returns o g result slices = NumberedMeets o (words_after g result) (answer_of result) slices
