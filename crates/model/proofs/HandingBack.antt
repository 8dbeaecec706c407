-- A turn handed back (A.2): a waiting plugin's leave is a look answered yes and then a leave, but for the slot (A.4), of which it touches none.
--
-- Main statements: `hand_back`, of the calls; of what an accepted leave does: `leave_after_look`.
use Prim.Native.Nat.{ℕ, ◌-◌, ◌<◌, ◌≤◌}
use mathlib.Core.Path.{ap, refl, subst, sym, ◌∙◌, ◌≡◌}
use mathlib.Core.Bool.{Bool, false, not, true, ◌||◌}
use mathlib.Core.List.{List}
use native.Mathlib.Omega.{arith}
use lib.ListN.{get_or, length, length-set, set}
use lib.Seq.{get_or-set_same, set-set}
use lib.Dec.{eqb, ltb}
use borrow.Author.Tests.{eq-eqb, eqb-false, eqb-true, not-false}
use Rattle.model.specs.declared.Answer.TheVariants.{Done, Looked}
use Rattle.model.specs.declared.Call.TheVariants.{Leave, Look}
use Rattle.model.specs.declared.Verdict.TheVariants.{Yes}
use Rattle.model.specs.declared.Gate.{Gate}
use Rattle.model.specs.declared.Record.{Record}
use Rattle.model.specs.Calls.{Outcome, call_in, called_in, count_down, count_up, head_slot, idle_record, left_in, looked, moved_up, rec, record_of, refuse, returned, waits_invalid, with_free, with_valid}
use Rattle.model.specs.Shown.{shown}
use Rattle.model.specs.HandBack.{HandBack, LookThenLeave, slots_kept}
use Rattle.model.specs.Rules.{rule_of}
use Rattle.model.specs.Sound.{idle, sound_in, ticket_of, waiting}
use Rattle.model.specs.Steps.{Block, Fits, col, free_colour, is_valid, moved, new_colour}
use Rattle.model.proofs.IsSound.{IsSoundIn, sound_i, sound_in_use}
use Rattle.model.proofs.Keeping.{look_sound, sound_free}
use Rattle.model.proofs.Leaving.{new_col, old_count}
use Rattle.model.proofs.Logic.{and_false_r, by_eq, plugin_in}
use Rattle.std.specs.Prelude.{Ok}
use Rattle.model.specs.declared.Refusal.{Refusal}

-- The record of a plugin that a look has put inside, with the slot sl.
abbrev pub went_in : Record → ℕ → Record
went_in r sl = rec 2 r.mark r.value.0 r.colour.0 sl

-- What a leave does reads p's mark, ticket and slot, not its region, and writes p's record anew.
leave_reads : (b : Block) (g : Gate) (l : List Record) (p sl : ℕ) → p - 1 < length l
    → left_in b g (set l (p - 1) (went_in (record_of l p) sl)) p
    ≡ record { gate = with_free (left_in b g l p).gate (returned g.free sl); list = (left_in b g l p).list; answer = Ok Done }
unfolding left_in
leave_reads b g l p sl h =
    let v = moved b g g.valid g.issue in
    let y = went_in (record_of l p) sl in
    ap (λ (x : Record). record {
      gate = with_free (with_valid g v (count_down (count_up g.counts (col v)) x.colour.0)) (returned g.free x.slot.0);
      list = set (set l (p - 1) y) (p - 1) (rec 0 x.mark 0 0 0);
      answer = Ok Done;
    })
    (get_or-set_same l (p - 1) y idle_record h)
    ∙ ap (λ (m : List Record). record {
      gate = with_free (with_valid g v (count_down (count_up g.counts (col v)) y.colour.0)) (returned g.free sl);
      list = m;
      answer = Ok Done;
    })
    (set-set l (p - 1) y (rec 0 y.mark 0 0 0))

-- So it does the same from inside and from waiting, with the same slot.
pub leave_after_look : (b : Block) (g : Gate) (l : List Record) (p : ℕ) → p - 1 < length l
    → left_in b g (set l (p - 1) (went_in (record_of l p) (record_of l p).slot.0)) p ≡ left_in b g l p
unfolding left_in
leave_after_look b g l p h = leave_reads b g l p (record_of l p).slot.0 h

-- Who may leave, from inside or from waiting: the colour that VALID moves to is one of the gate's, and the colour of the ticket is counted.
pub leaver_counted : {B : Block} (g : Gate) (l : List Record) (s : IsSoundIn B g l) (i : ℕ) (h : i < length l) → idle (get_or l i idle_record) ≡ false
    → waits_invalid g (get_or l i idle_record) ≡ false → (col (moved B g g.valid g.issue) ≤ g.k) × (0 < get_or g.counts (get_or l i idle_record).colour.0 0)
leaver_counted g l s i h n v =
    let r = get_or l i idle_record in
    by_eq r.region 1
    (λ e.
    let y = went_in r r.slot.0 in
    let same = get_or-set_same l i y idle_record h in
    let in-now = look_sound g l s i h e (not-false (is_valid g (ticket_of r)) (and_false_r (waiting r) (not (is_valid g (ticket_of r))) (eq-eqb _ _ e) v)) r.slot.0 in
    let h' : i < length (set l i y) = omega (arith, length-set l i y) in
    let two : (get_or (set l i y) i idle_record).region ≡ 2 = ap (λ (x : Record). x.region) same in
    (new_col g (set l i y) in-now i h' two, subst (λ (x : Record). 0 < get_or g.counts x.colour.0 0) same (old_count g (set l i y) in-now i h' two)))
    (λ e.
    let two : r.region ≡ 2 = omega (arith, eqb-false r.region 0 n, (s.records i h).region_ok) in
    (new_col g l s i h two, old_count g l s i h two))

-- A call that answered 'done' was not refused.
refuse_done : (b : Bool) (n : Refusal) (g : Gate) (l : List Record) (o : Outcome) → (refuse b n g l o).answer ≡ Ok Done → (b ≡ false) × (o.answer ≡ Ok Done)
refuse_done true n g l o e = let z : ◌≡◌ {A = ℕ} 0 1 = cc in absurd (omega arith)
refuse_done false n g l o e = (refl, e)

-- No refusal of a waiting plugin's leave applies.
record Accepted (b : Block) (g : Gate) (l : List Record) (p : ℕ) : Type 0 where
  right_length : not (eqb (length l) g.n) ≡ false
  is_sound : not (sound_in b g l) ≡ false
  in_range : (eqb p 0 || ltb g.n p) ≡ false
  unmarked : eqb (record_of l p).mark 1 ≡ false
  not_idle : idle (record_of l p) ≡ false
  not_early : waits_invalid g (record_of l p) ≡ false

module _ (b : Block) (g : Gate) (l : List Record) (p : ℕ) where
  accepted : (call_in b Leave g l p).answer ≡ Ok Done → Accepted b g l p
  unfolding call_in called_in
  accepted e =
      let e2 = refuse_done (not (eqb (length l) g.n)) _ g l _ e in
      let e3 = refuse_done (not (sound_in b g l)) _ g l _ e2.1 in
      let e4 = refuse_done (eqb p 0 || ltb g.n p) _ g l _ e3.1 in
      let e5 = refuse_done (eqb (record_of l p).mark 1) _ g l _ e4.1 in
      let e6 = refuse_done (idle (record_of l p)) _ g l _ e5.1 in
      let e9 = refuse_done (waits_invalid g (record_of l p)) _ g l _ e6.1 in
      record { right_length = e2.0; is_sound = e3.0; in_range = e4.0; unmarked = e5.0; not_idle = e6.0; not_early = e9.0 }

  module _ (f : Fits b g.n g.k) (w : waiting (record_of l p) ≡ true) (n : (record_of l p).slot.0 ≡ 0) (a : Accepted b g l p) where
    abbrev in-now : Record
    in-now = went_in (record_of l p) (head_slot g.free)

    abbrev g' : Gate
    g' = with_free g (moved_up g.free)

    abbrev l' : List Record
    l' = set l (p - 1) in-now

    in_list : p - 1 < length l
    in_list = let h = plugin_in g.n p a.in_range in omega (arith, h.0, h.1, eqb-true (length l) g.n (not-false _ a.right_length))

    valid : is_valid g (ticket_of (record_of l p)) ≡ true
    valid = not-false (is_valid g (ticket_of (record_of l p))) (and_false_r (waiting (record_of l p)) (not (is_valid g (ticket_of (record_of l p)))) w a.not_early)

    still_sound : sound_in b g' l' ≡ true
    still_sound =
        sound_i g' l' (sound_free (moved_up g.free)
        (look_sound g l (sound_in_use b g l f (not-false (sound_in b g l) a.is_sound)) (p - 1) in_list (eqb-true (record_of l p).region 1 w) valid (head_slot g.free)))

    look_is : call_in b Look g l p ≡ record { gate = g'; list = l'; answer = Ok (Looked (Yes (record { 0 = head_slot g.free }) (rule_of g (ticket_of (record_of l p))))) }
    unfolding call_in called_in looked
    look_is = rw (a.right_length, a.is_sound, a.in_range, a.unmarked, w, valid) refl

    leave_is : call_in b Leave g l p ≡ left_in b g l p
    unfolding call_in called_in
    leave_is = rw (a.right_length, a.is_sound, a.in_range, a.unmarked, a.not_idle, a.not_early) refl

    leave_from_inside : call_in b Leave g' l' p ≡ left_in b g' l' p
    unfolding call_in called_in
    leave_from_inside =
        rw (length-set l (p - 1) in-now, a.right_length, still_sound, a.in_range, get_or-set_same l (p - 1) in-now idle_record in_list, a.unmarked) refl

    -- Nothing that a leave does reads the free slots but their own row.
    same_but_slots : left_in b g l p ≡ slots_kept g.free (left_in b g' l' p)
    unfolding left_in moved new_colour free_colour
    same_but_slots =
        ap (λ (s : ℕ). record { gate = with_free (left_in b g l p).gate (returned g.free s); list = (left_in b g l p).list; answer = Ok Done }) n
        ∙ ap (slots_kept g.free) (sym (leave_reads b g' l p (head_slot g.free) in_list))

    look_then_leave : LookThenLeave b g l p
    look_then_leave = record {
      look_is_yes = ap (λ (o : Outcome). (shown o.answer).yes) look_is;
      leave_is_same =
          leave_is ∙ same_but_slots ∙ ap (slots_kept g.free) (sym leave_from_inside)
          ∙ ap (λ (o : Outcome). slots_kept g.free (call_in b Leave o.gate o.list p)) (sym look_is);
    }

pub hand_back : HandBack
hand_back b g l p f w n e = look_then_leave b g l p f w n (accepted b g l p e)
