-- A refused call leaves the words as they were.
--
-- Main statement: `words_kept`.
use Prim.Native.Nat.{ℕ}
use mathlib.Core.Path.{refl, sym, ◌∙◌, ◌≡◌}
use mathlib.Core.Bool.{Bool, cond, false, not, true}
use lib.Dec.{eqb}
use mathlib.Core.List.{List}
use native.Mathlib.Omega.{arith}
use Rattle.std.proofs.Common.{Err, Ok, Result}
use Rattle.model.specs.declared.Answer.{Answer}
use Rattle.model.specs.declared.Answer.TheVariants.{Done, Looked}
use Rattle.model.specs.declared.Call.{Call}
use Rattle.model.specs.declared.Call.TheVariants.{Leave, Look, Place, Stop, Take, Wake}
use Rattle.model.specs.declared.Gate.{Gate}
use Rattle.model.specs.declared.Record.{Record}
use Rattle.model.specs.declared.Refusal.{Refusal}
use Rattle.model.specs.declared.Ticket.{Ticket}
use Rattle.model.specs.declared.Verdict.{Verdict}
use Rattle.model.specs.declared.Verdict.TheVariants.{No, Yes}
use Rattle.model.specs.Refusals.{Answered}
use Rattle.model.specs.Calls.{Outcome, called, called_in, left, left_in, looked, marked, placed, placed_in, record_of, refuse, taken, taken_in, waits_invalid}
use Rattle.model.specs.Sound.{idle, ticket_of}
use Rattle.model.specs.Steps.{is_valid}

module _ (g : Gate) (l : List Record) (e : Refusal) where
  -- If this outcome is a refusal, it leaves the words.
  pub record Kept (o : Outcome) : Type 0 where
    pub kept : o.answer ≡ Err e → o.gate ≡ g

  refused_or : (b : Bool) (r : Refusal) (o : Outcome) → Kept o → Kept (refuse b r g l o)
  refused_or true r o k = record { kept = λ is. refl }
  refused_or false r o k = k

  either : (b : Bool) (o o' : Outcome) → Kept o → Kept o' → Kept (cond b o o')
  either true o o' k k' = k
  either false o o' k k' = k'

  accepted : (o : Outcome) (a : Answer Ticket Verdict ℕ) → o.answer ≡ Ok a → Kept o
  accepted o a i = record { kept = λ is. let z : ◌≡◌ {A = Answered} (Ok a) (Err e) = sym i ∙ is in let y : ◌≡◌ {A = ℕ} 0 1 = cc in absurd (omega arith) }

  pub words_kept : (c : Call) (p : ℕ) → Kept (called c g l p)
  unfolding called_in taken_in looked left_in placed_in marked
  words_kept Take p = let r = record_of l p in refused_or (eqb r.mark 1) _ _ (refused_or (not (eqb r.region 0)) _ _ (accepted (taken g l p) _ refl))
  words_kept Look p =
      let r = record_of l p in
      refused_or (eqb r.mark 1) _ _ (refused_or (not (eqb r.region 1)) _ _ (either (is_valid g (ticket_of r)) _ _ (accepted _ (Looked (Yes _ _)) refl) (accepted _ (Looked (No _)) refl)))
  words_kept Leave p =
      let r = record_of l p in
      refused_or (eqb r.mark 1) _ _ (refused_or (idle r) _ _ (refused_or (waits_invalid g r) _ _ (accepted (left g l p) Done refl)))
  words_kept Place p = let r = record_of l p in refused_or (eqb r.mark 1) _ _ (refused_or (not (eqb r.region 1)) _ _ (accepted (placed g l p) _ refl))
  words_kept Stop p = refused_or (eqb (record_of l p).mark 1) _ _ (accepted (marked 1 g l p) Done refl)
  words_kept Wake p = refused_or (eqb (record_of l p).mark 0) _ _ (accepted (marked 0 g l p) Done refl)
