-- What each call promises of slices of which it is lent some for reading only: those that it leaves as they were.
use Prim.Native.Nat.{ℕ}
use mathlib.Core.Path.{ap, refl, subst, sym, ◌∙◌, ◌≡◌}
use mathlib.Core.Bool.{Bool, false, not, true, ◌||◌}
use mathlib.Core.List.{List}
use lib.ListN.{length, set}
use lib.Dec.{eqb, ltb}
use Rattle.std.proofs.Common.{Ok}
use Rattle.gate.specs.Decides.{RepliesLent}
use Rattle.gate.proofs.KeptLaws.{Keeps, colours_kept, leave_keeps, look_keeps, marks_kept, place_keeps, regions_kept, slots_kept, stop_keeps, take_keeps, values_kept, wake_keeps}
use Rattle.model.specs.declared.Answer.{Answer}
use Rattle.model.specs.declared.Call.{Call}
use Rattle.model.specs.declared.Call.TheVariants.{Leave, Look, Place, Stop, Take, Wake}
use Rattle.model.specs.declared.Gate.{Gate}
use Rattle.model.specs.declared.Record.{Record}
use Rattle.model.specs.declared.Ticket.{Ticket}
use Rattle.model.specs.declared.Verdict.{Verdict}
use Rattle.model.specs.declared.Refusal.{Refusal}
use Rattle.model.specs.declared.Reply.{Reply}
use Rattle.model.specs.Calls.{Outcome, call, called_in, placed_in, record_of, refuse}
use Rattle.model.specs.Refusals.{Answered}
use Rattle.model.specs.Slices.{Lent, Meets, call_lent, length_is, lent, records_of}
use Rattle.model.specs.Sound.{sound}
use Rattle.model.proofs.Logic.{by_bool}

module _ (g : Gate) (rs ms vs cs ss : List ℕ) (p at : ℕ) (r : Record) (reply : Reply Gate (Answer Ticket Verdict ℕ)) where
  abbrev s : Lent
  s = lent rs ms vs cs ss

  -- The slices that call c leaves.
  abbrev Leaves : Call → Lent → Type 0
  Leaves c t = Meets (call_lent c g s p) reply.gate (Ok reply.answer) t

  module _ (c : Call) (d : RepliesLent c g s p (Ok (at, (r, reply)))) where
    regions_same : Keeps c (λ r. r.region) → set rs at r.region ≡ rs
    regions_same k = ap (λ (x : Lent). x.regions) d.1.slices_are ∙ regions_kept c g rs ms vs cs ss p k

    marks_same : Keeps c (λ r. r.mark) → set ms at r.mark ≡ ms
    marks_same k = ap (λ (x : Lent). x.marks) d.1.slices_are ∙ marks_kept c g rs ms vs cs ss p k

    values_same : Keeps c (λ r. r.value.0) → set vs at r.value.0 ≡ vs
    values_same k = ap (λ (x : Lent). x.values) d.1.slices_are ∙ values_kept c g rs ms vs cs ss p k

    colours_same : Keeps c (λ r. r.colour.0) → set cs at r.colour.0 ≡ cs
    colours_same k = ap (λ (x : Lent). x.colours) d.1.slices_are ∙ colours_kept c g rs ms vs cs ss p k

    slots_same : Keeps c (λ r. r.slot.0) → set ss at r.slot.0 ≡ ss
    slots_same k = ap (λ (x : Lent). x.slots) d.1.slices_are ∙ slots_kept c g rs ms vs cs ss p k

  pub take_form : RepliesLent Take g s p (Ok (at, (r, reply))) → Leaves Take (lent (set rs at r.region) ms (set vs at r.value.0) (set cs at r.colour.0) ss)
  take_form d =
      subst (Leaves Take)
      (λ j. lent (set rs at r.region) (marks_same Take d (take_keeps (λ r. r.mark) (λ r v c. refl)) j) (set vs at r.value.0) (set cs at r.colour.0)
      (slots_same Take d (take_keeps (λ r. r.slot.0) (λ r v c. refl)) j)) d.1

  pub look_form : RepliesLent Look g s p (Ok (at, (r, reply))) → Leaves Look (lent (set rs at r.region) ms vs cs (set ss at r.slot.0))
  look_form d =
      subst (Leaves Look)
      (λ j. lent (set rs at r.region) (marks_same Look d (look_keeps (λ r. r.mark) (λ r s. refl)) j) (values_same Look d (look_keeps (λ r. r.value.0) (λ r s. refl)) j)
      (colours_same Look d (look_keeps (λ r. r.colour.0) (λ r s. refl)) j) (set ss at r.slot.0)) d.1

  pub leave_form : RepliesLent Leave g s p (Ok (at, (r, reply)))
      → Leaves Leave (lent (set rs at r.region) ms (set vs at r.value.0) (set cs at r.colour.0) (set ss at r.slot.0))
  leave_form d =
      subst (Leaves Leave)
      (λ j. lent (set rs at r.region) (marks_same Leave d (leave_keeps (λ r. r.mark) (λ r. refl)) j) (set vs at r.value.0) (set cs at r.colour.0) (set ss at r.slot.0)) d.1

  pub place_form : RepliesLent Place g s p (Ok (at, (r, reply))) → Leaves Place s
  place_form d =
      subst (Leaves Place)
      (λ j. lent (regions_same Place d (place_keeps (λ r. r.region)) j) (marks_same Place d (place_keeps (λ r. r.mark)) j) (values_same Place d (place_keeps (λ r. r.value.0)) j)
      (colours_same Place d (place_keeps (λ r. r.colour.0)) j) (slots_same Place d (place_keeps (λ r. r.slot.0)) j)) d.1

  -- Stop and wake, which write the mark alone.
  mark_form : (c : Call) → ((f : Record → ℕ) → ((r : Record) (m : ℕ) → f (record { region = r.region; mark = m; value = r.value; colour = r.colour; slot = r.slot }) ≡ f r) → Keeps c f)
      → RepliesLent c g s p (Ok (at, (r, reply))) → Leaves c (lent rs (set ms at r.mark) vs cs ss)
  mark_form c k d =
      subst (Leaves c)
      (λ j. lent (regions_same c d (k (λ r. r.region) (λ r m. refl)) j) (set ms at r.mark) (values_same c d (k (λ r. r.value.0) (λ r m. refl)) j)
      (colours_same c d (k (λ r. r.colour.0) (λ r m. refl)) j) (slots_same c d (k (λ r. r.slot.0) (λ r m. refl)) j)) d.1

  pub stop_form : RepliesLent Stop g s p (Ok (at, (r, reply))) → Leaves Stop (lent rs (set ms at r.mark) vs cs ss)
  stop_form = mark_form Stop stop_keeps

  pub wake_form : RepliesLent Wake g s p (Ok (at, (r, reply))) → Leaves Wake (lent rs (set ms at r.mark) vs cs ss)
  wake_form = mark_form Wake wake_keeps

-- A place changes no word.
refused_gate : (b : Bool) (e : Refusal) (g : Gate) (l : List Record) (o : Outcome) → o.gate ≡ g → (refuse b e g l o).gate ≡ g
refused_gate true e g l o h = refl
refused_gate false e g l o h = h

place_gate : (g : Gate) (l : List Record) (p : ℕ) → (call Place g l p).gate ≡ g
unfolding call called_in placed_in
place_gate g l p =
    refused_gate (not (eqb (length l) g.n)) _ g l _ (refused_gate (not (sound g l)) _ g l _ (refused_gate (eqb p 0 || ltb g.n p) _ g l _
    (refused_gate (eqb (record_of l p).mark 1) _ g l _ (refused_gate (not (eqb (record_of l p).region 1)) _ g l _ refl))))

place_lent : (g : Gate) (s : Lent) (p : ℕ) → (call_lent Place g s p).gate ≡ g
unfolding call_lent
place_lent g s p = by_bool (length_is s g.n) (λ h. rw h (place_gate g (records_of s) p)) (λ h. rw h refl)

pub place_answers : (g : Gate) (s : Lent) (p : ℕ) (g' : Gate) (a : Answered) (t : Lent) → Meets (call_lent Place g s p) g' a t → Meets (call_lent Place g s p) g a t
place_answers g s p g' a t m = record { gate_is = sym (place_lent g s p); answer_is = m.answer_is; shown_is = m.shown_is; slices_are = m.slices_are }
