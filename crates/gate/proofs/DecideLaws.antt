-- A call is decided by what `begin` finds and by its plugin's record alone.
--
-- Main statements: `called_alone` (a call reads and writes no record but its plugin's), `refused_at_first`, `of_sound`, `accepts`, `refuses`.
use Prim.Native.Nat.{ℕ, ◌-◌, ◌<◌}
use mathlib.Core.Path.{ap, refl, subst, sym, ◌∙◌, ◌≡◌}
use mathlib.Core.Bool.{Bool, true, true≢false}
use mathlib.Core.List.{List, [], ◌∷◌}
use native.Mathlib.Omega.{arith}
use lib.ListN.{get_or, length, set}
use lib.Seq.{set-get_or}
use borrow.Author.Tests.{eq-eqb}
use Rattle.std.proofs.Common.{Err, Ok, Result}
use Rattle.begin.specs.Begin.{OfSound, alone, begins, outcome_of}
use Rattle.begin.proofs.FoundLaws.{Found, found_place}
use Rattle.gate.specs.Decides.{Decides, Decision}
use Rattle.gate.proofs.RefusalLaws.{words_kept}
use Rattle.model.specs.declared.Answer.{Answer}
use Rattle.model.specs.declared.Call.{Call}
use Rattle.model.specs.declared.Call.TheVariants.{Leave, Look, Place, Stop, Take, Wake}
use Rattle.model.specs.declared.Effect.{Effect}
use Rattle.model.specs.declared.Gate.{Gate}
use Rattle.model.specs.declared.Record.{Record}
use Rattle.model.specs.declared.Refusal.{Refusal}
use Rattle.model.specs.declared.Ticket.{Ticket}
use Rattle.model.specs.declared.Verdict.{Verdict}
use Rattle.model.specs.Calls.{Outcome, call, called, called_in, idle_record, left_in, looked, marked, placed_in, record_of, taken_in, with_record}
use Rattle.model.specs.Sound.{sound}

abbrev Made : Type 0
Made = Effect Record (Answer Ticket Verdict ℕ)

-- What is made of a list of one record, made of that record in a list.
abbrev lifted : List Record → ℕ → Outcome → Outcome
lifted l p o = record { gate = o.gate; list = with_record l p (get_or o.list 0 idle_record); answer = o.answer }

module _ (g : Gate) (l : List Record) (p : ℕ) where
  kept : with_record l p (record_of l p) ≡ l
  kept = set-get_or l (p - 1) idle_record

  -- A call reads and writes no record but its plugin's.
  pub called_alone : (c : Call) → called c g l p ≡ lifted l p (alone c g (record_of l p))
  unfolding called_in taken_in looked left_in placed_in marked
  called_alone Take = grind (arith, kept)
  called_alone Look = grind (arith, kept)
  called_alone Leave = grind (arith, kept)
  called_alone Place = grind (arith, kept)
  called_alone Stop = grind (arith, kept)
  called_alone Wake = grind (arith, kept)

-- What the beginning found. The list is of any kind, long whether it has the length N.
module _ (long : Bool) (c : Call) (g : Gate) (l : List Record) (p : ℕ) (counted : long ≡ true → length l ≡ g.n) where
  -- Refusals 2, 3 and 4.
  pub refused_at_first : (d : Decision) (e : Refusal) → d ≡ Err e → Err e ≡ begins long (sound g l) g.n p → Decides long c g l p g d
  unfolding begins call
  refused_at_first d e is q = subst (λ (x : Decision). Decides long c g l p g x) (sym is) (record {
    wrong_length = λ h. grind arith;
    as_called = λ h. let n = counted h in grind arith;
    within = tt;
    refused = refl;
  })

  -- No refusal 2, 3 or 4 came.
  module _ (at : ℕ) (z : Ok at ≡ begins long (sound g l) g.n p) where
    f : Found long (sound g l) g.n p at
    f = found_place _ _ _ _ at z

    within : at < length l
    within = omega (arith, f.below, counted f.has_length)

    -- Its record is one of a sound list.
    pub of_sound : OfSound g (get_or l at idle_record)
    of_sound = record { list = l; place = at; is_sound = f.is_sound; within = within; is = refl }

    -- The rest of the call decides.
    module _ (rec : Record) (rec_is : rec ≡ get_or l at idle_record) (g' : Gate) (made : Result Made Refusal) (told : outcome_of g' rec made ≡ alone c g rec) where
      is_record : rec ≡ record_of l p
      is_record = rec_is ∙ ap (λ (i : ℕ). get_or l i idle_record) f.at_is

      same : call c g l p ≡ lifted l p (outcome_of g' rec made)
      unfolding call
      same = rw (eq-eqb _ _ (counted f.has_length), f.is_sound, f.in_range, called_alone g l p c, sym is_record, told) refl

    pub accepts : (rec : Record) → rec ≡ get_or l at idle_record → (g' : Gate) (e : Made) → outcome_of g' rec (Ok e) ≡ alone c g rec → Decides long c g l p g' (Ok (at, e))
    accepts rec i g' e told = record {
      wrong_length = λ h. absurd (true≢false (sym f.has_length ∙ h));
      as_called = λ h. ap (λ (n : ℕ). record { gate = g'; list = set l n e.record; answer = Ok e.answer }) f.at_is ∙ sym (same rec i g' (Ok e) told);
      within = (f.has_length, within);
      refused = tt;
    }

    pub refuses : (rec : Record) → rec ≡ get_or l at idle_record → (g' : Gate) (d : Decision) (e : Refusal) → d ≡ Err e → outcome_of g' rec (Err e) ≡ alone c g rec → Decides long c g l p g' d
    refuses rec i g' d e is told = subst (λ (x : Decision). Decides long c g l p g' x) (sym is) (record {
      wrong_length = λ h. absurd (true≢false (sym f.has_length ∙ h));
      as_called = λ h.
          ap (λ (m : List Record). record { gate = g'; list = m; answer = Err e }) (sym (ap (with_record l p) (is_record rec i g' (Err e) told) ∙ kept g l p))
          ∙ sym (same rec i g' (Err e) told);
      within = tt;
      refused = ap (λ (x : Outcome). x.gate) told ∙ (words_kept g (rec ∷ []) e c 1).kept (sym (ap (λ (x : Outcome). x.answer) told));
    })
