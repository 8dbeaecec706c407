-- The tickets in the records are those of the ledger that the written results make.
--
-- Main statement: `results_ledger`.
use Prim.Native.Nat.{ℕ}
use mathlib.Core.Path.{refl, ◌∙◌, ◌≡◌}
use mathlib.Core.Bool.{Bool, cond, false, not, true, ◌||◌}
use mathlib.Core.List.{List, [], map, ◌++◌, ◌∷◌}
use lib.ListN.{length}
use lib.Dec.{eqb, ltb}
use Rattle.std.proofs.Common.{Err, Ok}
use Rattle.model.specs.declared.Answer.TheVariants.{Done, Looked, Placed, Took}
use Rattle.model.specs.declared.Call.{Call}
use Rattle.model.specs.declared.Call.TheVariants.{Leave, Look, Place, Stop, Take, Wake}
use Rattle.model.specs.declared.Gate.{Gate}
use Rattle.model.specs.declared.Record.{Record}
use Rattle.model.specs.declared.Refusal.{Refusal}
use Rattle.model.specs.declared.Refusal.TheVariants.{BadLine, CounterFull, IsStopped, NoSuchPlugin, NotSound, NotStopped, NotYetValid, OutOfRange, TooManySlots, WrongLength, WrongRegion}
use Rattle.model.specs.declared.Ticket.{Ticket}
use Rattle.model.specs.declared.Verdict.{Verdict}
use Rattle.model.specs.declared.Verdict.TheVariants.{No, Yes}
use Rattle.model.specs.Calls.{Outcome, Step, after, call, called, called_in, left_in, looked, marked, placed_in, record_of, refuse, step, taken_in, waits_invalid}
use Rattle.model.specs.Shown.{shown}
use Rattle.model.specs.Claim.{noted}
use Rattle.model.specs.Refusals.{Answered}
use Rattle.model.specs.Sound.{idle, sound, ticket_of}
use Rattle.model.specs.Steps.{col, is_valid, val}
use Rattle.replay.specs.Replay.{entered, gate_answers, ledger_of}
use Rattle.answers.specs.Answers.{numbers_of}
use Rattle.model.proofs.Ledger.{call_noted}
use Rattle.model.proofs.Logic.{by_bool}

-- What each call may answer: a refusal, or its own kind of answer.
data Answers : Call → Answered → Type 0 where
  a_refused : {c : Call} (r : Refusal) → Answers c (Err r)
  a_taken : {t : Ticket} → Answers Take (Ok (Took t))
  a_looked : (v : Verdict) → Answers Look (Ok (Looked v))
  a_left : Answers Leave (Ok Done)
  a_placed : {n : ℕ} → Answers Place (Ok (Placed n))
  a_stopped : Answers Stop (Ok Done)
  a_woken : Answers Wake (Ok Done)

refuse_answers : (b : Bool) (r : Refusal) (g : Gate) (l : List Record) (o : Outcome) (c : Call) → Answers c o.answer → Answers c (refuse b r g l o).answer
refuse_answers true r g l o c a = a_refused r
refuse_answers false r g l o c a = a

module _ (g : Gate) (l : List Record) (p : ℕ) where
  look_answers : Answers Look (looked g l p).answer
  unfolding looked
  look_answers = by_bool (is_valid g (ticket_of (record_of l p))) (λ e. rw e (a_looked (Yes _ _))) (λ e. rw e (a_looked (No _)))

  called_answers : (c : Call) → Answers c (called c g l p).answer
  unfolding called_in taken_in left_in placed_in marked
  called_answers Take =
      refuse_answers (eqb (record_of l p).mark 1) IsStopped g l _ Take (refuse_answers (not (eqb (record_of l p).region 0)) WrongRegion g l _ Take a_taken)
  called_answers Look =
      refuse_answers (eqb (record_of l p).mark 1) IsStopped g l _ Look (refuse_answers (not (eqb (record_of l p).region 1)) WrongRegion g l _ Look look_answers)
  called_answers Leave =
      refuse_answers (eqb (record_of l p).mark 1) IsStopped g l _ Leave
      (refuse_answers (idle (record_of l p)) WrongRegion g l _ Leave (refuse_answers (waits_invalid g (record_of l p)) NotYetValid g l _ Leave a_left))
  called_answers Place =
      refuse_answers (eqb (record_of l p).mark 1) IsStopped g l _ Place (refuse_answers (not (eqb (record_of l p).region 1)) WrongRegion g l _ Place a_placed)
  called_answers Stop = refuse_answers (eqb (record_of l p).mark 1) IsStopped g l _ Stop a_stopped
  called_answers Wake = refuse_answers (eqb (record_of l p).mark 0) NotStopped g l _ Wake a_woken

  call_answers : (c : Call) → Answers c (call c g l p).answer
  unfolding call
  call_answers c =
      refuse_answers (not (eqb (length l) g.n)) WrongLength g l _ c
      (refuse_answers (not (sound g l)) NotSound g l _ c (refuse_answers (eqb p 0 || ltb g.n p) NoSuchPlugin g l _ c (called_answers c)))

-- What an answer shows enters the ledger as the answer itself does.
abbrev enters : Call → ℕ → Answered → List Ticket → List Ticket
enters c p a ts = cond (eqb (shown a).number 0) (entered c p (shown a).ticket ts) ts

noted_entered : (c : Call) (a : Answered) (p : ℕ) (ts : List Ticket) → Answers c a → noted c a p ts ≡ enters c p a ts
noted_entered c a p ts (a_refused OutOfRange) = refl
noted_entered c a p ts (a_refused WrongLength) = refl
noted_entered c a p ts (a_refused NotSound) = refl
noted_entered c a p ts (a_refused NoSuchPlugin) = refl
noted_entered c a p ts (a_refused IsStopped) = refl
noted_entered c a p ts (a_refused WrongRegion) = refl
noted_entered c a p ts (a_refused NotStopped) = refl
noted_entered c a p ts (a_refused BadLine) = refl
noted_entered c a p ts (a_refused NotYetValid) = refl
noted_entered c a p ts (a_refused TooManySlots) = refl
noted_entered c a p ts (a_refused CounterFull) = refl
noted_entered c a p ts a_taken = refl
noted_entered c a p ts (a_looked (Yes s r)) = refl
noted_entered c a p ts (a_looked (No r)) = refl
noted_entered c a p ts a_left = refl
noted_entered c a p ts a_placed = refl
noted_entered c a p ts a_stopped = refl
noted_entered c a p ts a_woken = refl

-- What the answers write, before whatever stands after it.
abbrev wrote : (Answered → ℕ) → Gate → List Record → List Step → List ℕ → List ℕ
wrote f g l s old = map f (gate_answers g l s) ++ old

pub results_ledger : (g : Gate) (l : List Record) (ts : List Ticket) → map ticket_of l ≡ ts → (s : List Step) (x y z : List ℕ)
    → map ticket_of (after g l s).list
    ≡ ledger_of ts s (wrote (λ a. (numbers_of a).number) g l s x) (wrote (λ a. val (numbers_of a).ticket) g l s y) (wrote (λ a. col (numbers_of a).ticket) g l s z)
unfolding after gate_answers ledger_of
results_ledger g l ts h [] x y z = h
results_ledger g l ts h (step c p ∷ s) x y z =
    let o = call c g l p in
    let e : map ticket_of o.list ≡ enters c p o.answer ts = (call_noted g l p ts h c).tickets ∙ noted_entered c o.answer p ts (call_answers g l p c) in
    results_ledger o.gate o.list (enters c p o.answer ts) e s x y z
