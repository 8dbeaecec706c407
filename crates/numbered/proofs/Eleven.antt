-- When a call is answered 11, and that every call, an 11 too, keeps soundness.
--
-- Main statements: `eleven_exactly`, `eleven_only_at_end`, `refused_changes_nothing`, `calls_keep_sound`.
use Prim.Native.Nat.{ℕ, ◌<◌}
use mathlib.Core.Path.{◌≡◌, refl, sym, ap, ap₂, ◌∙◌}
use mathlib.Core.Bool.{Bool, true, false, true≢false, not, ◌&&◌, ◌||◌}
use mathlib.Core.List.{List}
use mathlib.Core.Logic.{inl, inr, ◌⊎◌}
use native.Mathlib.Omega.{arith}
use lib.ListN.{length}
use lib.Dec.{eqb, ltb}
use borrow.Author.Tests.{eq-eqb, eqb-true, ne_eqb}
use Rattle.model.specs.declared.Call.{Call}
use Rattle.model.specs.declared.Call.TheVariants.{Leave, Look, Place, Stop, Take, Wake}
use Rattle.numbered.specs.declared.NumberedGate.{NumberedGate}
use Rattle.numbered.specs.declared.NumberedRecord.{NumberedRecord}
use Rattle.model.specs.Sound.{sound_in}
use Rattle.model.proofs.Logic.{and_false, and_r, by_bool, by_eq}
use Rattle.model.proofs.SomeQueue.{call_keeps_sound_in}
use Rattle.numbered.specs.Sound.{is_idle, not_above_valid, sound_numbered}
use Rattle.numbered.specs.Calls.{NumberedOutcome, call_numbered, called_numbered, greatest, left_numbered, looked_numbered, marked_numbered, placed_numbered, record_at, refuse_numbered, shown_numbered, taken_numbered, waits_above}
use Rattle.numbered.specs.Claim.{CallsKeepSound, ElevenExactly, ElevenOnlyAtEnd, RefusedChangesNothing, Unchanged, counter_at_end, in_its_region, would_raise}
use Rattle.numbered.proofs.Endless.{endless, endless_size, wide, wide_list}
use Rattle.numbered.proofs.IsSoundNumbered.{numbered_use}
use Rattle.numbered.proofs.WideSound.{numbered_sound_is, wide_fits, wide_length, wide_sound}
use Rattle.numbered.proofs.WideCalls.{call_wide}
use Rattle.model.specs.declared.Refusal.{Refusal}
use Rattle.model.specs.declared.Refusal.TheVariants.{CounterFull, IsStopped, NoSuchPlugin, NotSound, NotStopped, NotYetValid, WrongLength, WrongRegion}
use Rattle.model.specs.Refusals.{refusal_number}

abbrev number : NumberedOutcome → ℕ
number o = (shown_numbered o.answer).number

module _ (g : NumberedGate) (l : List NumberedRecord) (p : ℕ) where
  abbrev r : NumberedRecord
  r = record_at l p

  -- The accepted calls have number 0.
  look_number : number (looked_numbered g l p) ≡ 0
  unfolding looked_numbered
  look_number = by_bool (not_above_valid g r.ticket) (λ e. rw e refl) (λ e. rw e refl)

  take_number : number (taken_numbered g l p) ≡ 0
  unfolding taken_numbered
  take_number = refl

  leave_number : number (left_numbered g l p) ≡ 0
  unfolding left_numbered
  leave_number = refl

  place_number_lem : number (placed_numbered g l p) ≡ 0
  unfolding placed_numbered
  place_number_lem = refl

  mark_number : (m : ℕ) → number (marked_numbered m g l p) ≡ 0
  unfolding marked_numbered
  mark_number m = refl

  -- Another refusal comes first, or 11 stands as it did ..
  before : (b : Bool) (n : Refusal) (o : NumberedOutcome) (x : Bool) → eqb (refusal_number n) 11 ≡ false → eqb (number o) 11 ≡ x → eqb (number (refuse_numbered b n g l o)) 11 ≡ (not b && x)
  before true n o x e f = e
  before false n o x e f = f

  -- .. and 11 itself.
  eleven : (b : Bool) (o : NumberedOutcome) → number o ≡ 0 → eqb (number (refuse_numbered b CounterFull g l o)) 11 ≡ b
  eleven true o e = refl
  eleven false o e = ap (λ (n : ℕ). eqb n 11) e

  -- The tests of a call from 5 on, and those before, in the statement's order.
  from_five : (m x e : Bool) → (not m && (not (not x) && e)) ≡ ((not m && x) && e)
  from_five true x e = refl
  from_five false true e = refl
  from_five false false e = refl

  from_five_nine : (m x y e : Bool) → (not m && (not x && (not y && e))) ≡ ((not m && (not x && not y)) && e)
  from_five_nine true x y e = refl
  from_five_nine false true y e = refl
  from_five_nine false false y e = refl

  none : (m x y : Bool) → (not m && (x && false)) ≡ ((not m && y) && false)
  none m x y = ap (λ (b : Bool). not m && b) (and_false x) ∙ and_false (not m) ∙ sym (and_false (not m && y))

  from_two : (a s q m x e : Bool) → (not (not a) && (not (not s) && (not q && ((m && x) && e)))) ≡ ((a && s && not q && m && x) && e)
  from_two false s q m x e = refl
  from_two true false q m x e = refl
  from_two true true true m x e = refl
  from_two true true false m x e = refl

  called_eleven : (c : Call) → eqb (number (called_numbered c g l p)) 11 ≡ ((not (eqb r.mark 1) && in_its_region c g r) && counter_at_end c g)
  unfolding called_numbered
  called_eleven Take =
      before (eqb r.mark 1) IsStopped _ _ refl (before (not (is_idle r)) WrongRegion _ _ refl (eleven (eqb g.issue greatest) _ take_number))
      ∙ from_five (eqb r.mark 1) (is_idle r) (eqb g.issue greatest)
  called_eleven Look =
      before (eqb r.mark 1) IsStopped _ _ refl (before (not (eqb r.region 1)) WrongRegion _ false refl (ap (λ (n : ℕ). eqb n 11) look_number))
      ∙ none (eqb r.mark 1) (not (not (eqb r.region 1))) false
  called_eleven Leave =
      before (eqb r.mark 1) IsStopped _ _ refl
      (before (is_idle r) WrongRegion _ _ refl (before (waits_above g r) NotYetValid _ _ refl (eleven (eqb g.valid greatest) _ leave_number)))
      ∙ from_five_nine (eqb r.mark 1) (is_idle r) (waits_above g r) (eqb g.valid greatest)
  called_eleven Place =
      before (eqb r.mark 1) IsStopped _ _ refl (before (not (eqb r.region 1)) WrongRegion _ false refl (ap (λ (n : ℕ). eqb n 11) place_number_lem))
      ∙ none (eqb r.mark 1) (not (not (eqb r.region 1))) false
  called_eleven Stop =
      before (eqb r.mark 1) IsStopped _ (true && false) refl (ap (λ (n : ℕ). eqb n 11) (mark_number 1)) ∙ none (eqb r.mark 1) true false
  called_eleven Wake =
      before (eqb r.mark 0) NotStopped _ false refl (ap (λ (n : ℕ). eqb n 11) (mark_number 0))
      ∙ and_false (not (eqb r.mark 0)) ∙ sym (and_false (not (eqb r.mark 1) && false))

  pub call_eleven : (c : Call) → eqb (number (call_numbered c g l p)) 11 ≡ (would_raise c g l p && counter_at_end c g)
  unfolding call_numbered would_raise
  call_eleven c =
      before (not (eqb (length l) g.n)) WrongLength _ _ refl
      (before (not (sound_numbered g l)) NotSound _ _ refl (before (eqb p 0 || ltb g.n p) NoSuchPlugin _ _ refl (called_eleven c)))
      ∙ from_two (eqb (length l) g.n) (sound_numbered g l) (eqb p 0 || ltb g.n p) (not (eqb r.mark 1)) (in_its_region c g r) (counter_at_end c g)

pub eleven_exactly : ElevenExactly
eleven_exactly c g l p = call_eleven g l p c

at_end : (c : Call) (g : NumberedGate) → counter_at_end c g ≡ true → ((c ≡ Take) × (g.issue ≡ greatest)) ⊎ ((c ≡ Leave) × (g.valid ≡ greatest))
at_end Take g e = inl (refl, eqb-true _ _ e)
at_end Leave g e = inr (refl, eqb-true _ _ e)
at_end Look g e = absurd (true≢false (sym e))
at_end Place g e = absurd (true≢false (sym e))
at_end Stop g e = absurd (true≢false (sym e))
at_end Wake g e = absurd (true≢false (sym e))

pub eleven_only_at_end : ElevenOnlyAtEnd
eleven_only_at_end c g l p e = at_end c g (and_r (would_raise c g l p) _ (sym (call_eleven g l p c) ∙ eq-eqb _ _ e))

-- A call whose number is not 0 changes nothing.
pub record RefusedKeeps (g : NumberedGate) (l : List NumberedRecord) (o : NumberedOutcome) : Type 0 where
  pub keeps : eqb (number o) 0 ≡ false → Unchanged o g l

module _ (g : NumberedGate) (l : List NumberedRecord) (p : ℕ) where
  refusal : (b : Bool) (n : Refusal) (o : NumberedOutcome) → RefusedKeeps g l o → RefusedKeeps g l (refuse_numbered b n g l o)
  refusal true n o h = record { keeps = λ e. record { gate_is = refl; list_is = refl } }
  refusal false n o h = h

  accepted : (o : NumberedOutcome) → number o ≡ 0 → RefusedKeeps g l o
  accepted o z = record { keeps = λ e. absurd (true≢false (sym (eq-eqb _ _ z) ∙ e)) }

  called_keeps : (c : Call) → RefusedKeeps g l (called_numbered c g l p)
  unfolding called_numbered
  called_keeps Take =
      refusal (eqb (record_at l p).mark 1) IsStopped _
      (refusal (not (eqb (record_at l p).region 0)) WrongRegion _ (refusal (eqb g.issue greatest) CounterFull _ (accepted _ (take_number g l p))))
  called_keeps Look =
      refusal (eqb (record_at l p).mark 1) IsStopped _ (refusal (not (eqb (record_at l p).region 1)) WrongRegion _ (accepted _ (look_number g l p)))
  called_keeps Leave =
      refusal (eqb (record_at l p).mark 1) IsStopped _
      (refusal (is_idle (record_at l p)) WrongRegion _
      (refusal (waits_above g (record_at l p)) NotYetValid _ (refusal (eqb g.valid greatest) CounterFull _ (accepted _ (leave_number g l p)))))
  called_keeps Place =
      refusal (eqb (record_at l p).mark 1) IsStopped _ (refusal (not (eqb (record_at l p).region 1)) WrongRegion _ (accepted _ (place_number_lem g l p)))
  called_keeps Stop = refusal (eqb (record_at l p).mark 1) IsStopped _ (accepted _ (mark_number g l p 1))
  called_keeps Wake = refusal (eqb (record_at l p).mark 0) NotStopped _ (accepted _ (mark_number g l p 0))

  call_keeps : (c : Call) → RefusedKeeps g l (call_numbered c g l p)
  unfolding call_numbered
  call_keeps c =
      refusal (not (eqb (length l) g.n)) WrongLength _
      (refusal (not (sound_numbered g l)) NotSound _ (refusal (eqb p 0 || ltb g.n p) NoSuchPlugin _ (called_keeps c)))

pub refused_changes_nothing : RefusedChangesNothing
refused_changes_nothing c g l p = (call_keeps g l p c).keeps

-- Soundness is kept: an 11 changes nothing, and any other call is the wide gate's.
pub calls_keep_sound : CallsKeepSound
calls_keep_sound g l i v s n c p =
    let o = call_numbered c g l p in
    let f = numbered_use g l s in
    let i-in : g.issue < endless.size = omega (arith, endless_size) in
    let v-in : g.valid < endless.size = omega (arith, endless_size) in
    by_eq (number o) 11
    (λ e.
    let k = refused_changes_nothing c g l p (ne_eqb (number o) 0 (λ z. omega arith)) in
    ap₂ sound_numbered k.gate_is k.list_is ∙ s)
    (λ e.
    let w = call_wide g l i-in v-in c p e in
    wide_sound o.gate o.list
    (ap₂ (sound_in endless) w.gate_is w.list_is
    ∙ call_keeps_sound_in endless (wide g) (wide_list l) (wide_fits g f.n_high f.k_high) (sym (numbered_sound_is g l i-in v-in) ∙ s) (wide_length l ∙ n) refl c p))
