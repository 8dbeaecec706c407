-- The slots of a gate and those of the slot rule: they are the same at opening, and after each call on a gate whose tickets are sound.
--
-- Main statements: `row_not_empty` (at a yes a slot is free), `hand_back_agrees` (a turn handed back moves no slot), `slot_step_in` (one call, in any block), `own_step` (one call on a sound gate, with
-- the queue), `open_slotted`.
use Prim.Native.Nat.{suc, ℕ, ◌-◌, ◌<◌, ◌≤◌}
use mathlib.Core.Path.{ap, ap₂, refl, subst, sym, ◌∙◌, ◌≡◌}
use mathlib.Core.Bool.{Bool, cond, false, not, true, ◌&&◌, ◌||◌}
use mathlib.Core.List.{List, [], map, ◌++◌, ◌∷◌}
use native.Mathlib.Nat.{not-suc-le-zero}
use native.Mathlib.Omega.{arith}
use lib.ListN.{get_or-map, drop, get_or, get_or-replicate, length, length-replicate, replicate, set}
use lib.Seq.{map-set_same, map-set}
use lib.Dec.{eqb, ltb}
use borrow.Author.Tests.{eq-eqb, eqb-true, ne_eqb, not-false}
use lib.LanesLaws.{map-replicate}
use Rattle.model.specs.declared.Call.{Call}
use Rattle.model.specs.declared.Call.TheVariants.{Leave, Look, Place, Stop, Take, Wake}
use Rattle.model.specs.declared.Gate.{Gate}
use Rattle.model.specs.declared.Record.{Record}
use Rattle.model.specs.Calls.{waits_invalid, Outcome, call, called_in, call_in, free_slots, head_slot, idle_record, left_in, looked, marked, moved_up, placed_in, rec, record_of, refuse, returned, taken_in, with_free}
use Rattle.model.specs.Opening.{opened}
use Rattle.model.specs.Shown.{shown}
use Rattle.model.specs.Lists.{count, numbers_from, one_if}
use Rattle.model.specs.Queue.{Queue, Reply, Said, queue_call, refusal}
use Rattle.model.specs.Slots.{Handed, Slots, open_slots, slot_call, unmoved}
use Rattle.model.specs.Sound.{idle, holds_other, inside, inside_with, pending_in, slots_sound, sound_in, ticket_of}
use Rattle.model.specs.Steps.{Block, is_valid}
use Rattle.model.proofs.Counting.{count_append, count_most, count_none, count_pos, count_set, each_set}
use Rattle.model.proofs.IsSound.{IsSoundIn}
use Rattle.model.proofs.Keeping.{look_sound}
use Rattle.model.proofs.Logic.{by_bool, by_eq, plugin_in}
use Rattle.model.proofs.OneStep.{Agree, call_is, one_step, said_of}
use Rattle.model.proofs.RecordTests.{inside_held, other_i}
use Rattle.model.proofs.Relation.{Related}
use Rattle.model.proofs.Rising.{each_snoc}
use Rattle.model.proofs.Rows.{numbers_at, numbers_length, numbers_once}
use Rattle.model.proofs.SlotLaws.{HasSlots, IsSlot, SlotInRange, back_is, front_is, row_and_inside, slots_i, up_is}
use Rattle.model.specs.declared.Refusal.{Refusal}
use Rattle.model.specs.declared.Refusal.TheVariants.{BadLine, CounterFull, IsStopped, NoSuchPlugin, NotSound, NotStopped, NotYetValid, OutOfRange, TooManySlots, WrongLength, WrongRegion}
use Rattle.model.specs.Refusals.{refusal_number}

-- The slots of a gate and list are those of the slot rule.
pub record Slotted (g : Gate) (l : List Record) (x : Slots) : Type 0 where
  pub has : HasSlots g l x.free
  pub owned_are : x.owned ≡ map (λ r. r.slot.0) l

-- A plugin inside holds a ticket that is none of the places after VALID; of those there are at most k.
pub inside_most : {B : Block} (g : Gate) (l : List Record) → IsSoundIn B g l → count inside l ≤ g.k
inside_most {B} g l s =
    omega (
      arith,
      s.others,
      count_most inside (holds_other (pending_in B g)) l idle_record (λ i h e.
          other_i (get_or l i idle_record) (pending_in B g) (inside_held (get_or l i idle_record) e) (s.no_inside i h e)),
    )

not_inside : (r : Record) (n : ℕ) → r.region ≡ n → (n ≡ 2 → ⊥) → inside r ≡ false
not_inside r n e h = ne_eqb r.region 2 (λ z. h (sym e ∙ z))

-- At a yes a slot is free.
module _ {B : Block} (g : Gate) (l : List Record) (s : IsSoundIn B g l) (i : ℕ) (h : i < length l) where
  pub row_not_empty : (row : List ℕ) → HasSlots g l row → (get_or l i idle_record).region ≡ 1 → is_valid g (ticket_of (get_or l i idle_record)) ≡ true → 0 < length row
  row_not_empty row x w v =
      let old = get_or l i idle_record in
      let new = rec 2 old.mark old.value.0 old.colour.0 0 in
      omega (
        arith,
        row_and_inside g l row x,
        inside_most g (set l i new) (look_sound g l s i h w v 0),
        count_set inside l i new idle_record h,
        ap one_if (not_inside old 1 w (λ e. omega arith)),
      )

  -- The row is never longer than its 64 places, and shorter where a plugin is inside.
  row_short : (row : List ℕ) → HasSlots g l row → length row ≤ 64
  row_short row x = omega (arith, row_and_inside g l row x, s.k_high)

  row_shorter : (row : List ℕ) → HasSlots g l row → inside (get_or l i idle_record) ≡ true → length row < 64
  row_shorter row x e = omega (arith, row_and_inside g l row x, s.k_high, count_pos inside l i idle_record h e)

module _ (g : Gate) (l : List Record) (i : ℕ) (h : i < length l) where
  abbrev old : Record
  old = get_or l i idle_record

  -- A record keeps its slot, and whether it is inside.
  same_slots : (row : List ℕ) → HasSlots g l row → (new : Record) → inside new ≡ inside old → new.slot.0 ≡ old.slot.0
      → (g' : Gate) → g'.k ≡ g.k → g'.free ≡ g.free → HasSlots g' (set l i new) row
  same_slots row x new e f g' ek ef = record {
    free_is = ef ∙ x.free_is;
    row_slots = rw ek x.row_slots;
    own_slots = rw ek (each_set (SlotInRange g.k) l i new idle_record
        (record {
          inside_slot = λ z. subst (IsSlot g.k) (sym f) ((x.own_slots i h).inside_slot (sym e ∙ z));
          outside_slot = λ z. f ∙ (x.own_slots i h).outside_slot (sym e ∙ z);
        })
        x.own_slots);
    once = λ s a b.
        omega (
          arith,
          x.once s a (omega (arith, ek)),
          count_set (inside_with s) l i new idle_record h,
          ap₂ (λ (y : Bool) (z : ℕ). one_if (y && eqb z s)) e f,
        );
  }

  -- A yes: the head of the row goes to a record that was not inside.
  look_slots : (row : List ℕ) → HasSlots g l row → 0 < length row → length row ≤ 64 → inside old ≡ false → (mk v c : ℕ)
      → HasSlots (with_free g (moved_up g.free)) (set l i (rec 2 mk v c (head_slot g.free))) (drop 1 row) × (head_slot g.free ≡ get_or row 0 0)
  unfolding count
  look_slots [] x a b o mk v c = absurd (not-suc-le-zero a)
  look_slots (y ∷ row) x a b o mk v c =
      let new = rec 2 mk v c (head_slot g.free) in
      let e : head_slot g.free ≡ y = ap head_slot x.free_is in (
        record {
          free_is = ap moved_up x.free_is ∙ up_is y row b;
          row_slots = λ j z. x.row_slots (suc j) (omega arith);
          own_slots =
              each_set (SlotInRange g.k) l i new idle_record
              (record { inside_slot = λ z. subst (IsSlot g.k) (sym e) (x.row_slots 0 (omega arith)); outside_slot = λ z. absurd (omega (arith, ap one_if z)) })
              x.own_slots;
          once = λ s p q.
              omega (
                arith,
                x.once s p q,
                count_set (inside_with s) l i new idle_record h,
                ap (λ (z : Bool). one_if (z && eqb old.slot.0 s)) o,
                ap (λ (z : ℕ). one_if (eqb z s)) e,
              );
        },
        e,
      )

  -- A leave from inside: the record's slot goes to the end of the row.
  leave_slots : (row : List ℕ) → HasSlots g l row → length row < 64 → inside old ≡ true → (mk : ℕ) (g' : Gate) → g'.k ≡ g.k
      → g'.free ≡ returned g.free old.slot.0
      → HasSlots g' (set l i (rec 0 mk 0 0 0)) (row ++ (old.slot.0 ∷ []))
  unfolding count
  leave_slots row x b o mk g' ek ef =
      let new = rec 0 mk 0 0 0 in
      let sl = old.slot.0 in
      let r = (x.own_slots i h).inside_slot o in
      let front : free_slots g.free ≡ row = ap free_slots x.free_is ∙ front_is row (64 - length row) (λ j z. (x.row_slots j z).0) in
      let back : returned g.free sl ≡ set g.free (length (free_slots g.free)) sl =
      ap (λ (z : Bool). cond z g.free (set g.free (length (free_slots g.free)) sl)) (ne_eqb sl 0 (λ z. omega (arith, r.0))) in
      record {
        free_is =
            ef ∙ back ∙ ap₂ (λ (f t : List ℕ). set f (length t) sl) x.free_is front ∙ back_is row sl b;
        row_slots = rw ek (each_snoc (IsSlot g.k) row sl x.row_slots r);
        own_slots = rw ek (each_set (SlotInRange g.k) l i new idle_record
            (record { inside_slot = λ z. absurd (omega (arith, ap one_if z)); outside_slot = λ z. refl })
            x.own_slots);
        once = λ s p q.
            omega (
              arith,
              x.once s p (omega (arith, ek)),
              count_append (λ y. eqb y s) row (sl ∷ []),
              count_set (inside_with s) l i new idle_record h,
              ap (λ (z : Bool). one_if (z && eqb sl s)) o,
            );
      }

-- One call and the slot rule, which is given what the call said.
pub record SlotAgrees (c : Call) (p : ℕ) (x : Slots) (o : Outcome) : Type 0 where
  pub slotted : Slotted o.gate o.list (slot_call c p (said_of o.answer) x).slots
  pub given_is : (shown o.answer).slot ≡ (slot_call c p (said_of o.answer) x).given

-- No refusal has the number 0.
pub refusal_some : (r : Refusal) → eqb (refusal_number r) 0 ≡ false
refusal_some OutOfRange = refl
refusal_some WrongLength = refl
refusal_some NotSound = refl
refusal_some NoSuchPlugin = refl
refusal_some IsStopped = refl
refusal_some WrongRegion = refl
refusal_some NotStopped = refl
refusal_some BadLine = refl
refusal_some NotYetValid = refl
refusal_some TooManySlots = refl
refusal_some CounterFull = refl

-- A refused call moves no slot.
refused_same : (c : Call) (p : ℕ) (r : Refusal) (x : Slots) → slot_call c p (refusal (refusal_number r)) x ≡ unmoved x
refused_same Take p n x = refl
refused_same Look p n x = refl
refused_same Leave p n x = rw (refusal_some n) refl
refused_same Place p n x = refl
refused_same Stop p n x = refl
refused_same Wake p n x = refl

refuse_slots : (c : Call) (p : ℕ) (x : Slots) (b : Bool) (n : Refusal) (g : Gate) (l : List Record) (o : Outcome) → Slotted g l x
    → (b ≡ false → SlotAgrees c p x o) → SlotAgrees c p x (refuse b n g l o)
refuse_slots c p x true n g l o s f = record {
  slotted = subst (λ (h : Handed). Slotted g l h.slots) (sym (refused_same c p n x)) s;
  given_is = ap (λ (h : Handed). h.given) (sym (refused_same c p n x));
}
refuse_slots c p x false n g l o s f = f refl

module _ {B : Block} (g : Gate) (l : List Record) (s : IsSoundIn B g l) (x : Slots) (w : Slotted g l x) (p : ℕ) (h : p - 1 < length l) where
  abbrev was : Record
  was = record_of l p

  owned_at : get_or x.owned (p - 1) 0 ≡ was.slot.0
  owned_at = ap (λ (m : List ℕ). get_or m (p - 1) 0) w.owned_are ∙ get_or-map (λ (r : Record). r.slot.0) l (p - 1) idle_record

  owned_set : (r : Record) → set x.owned (p - 1) r.slot.0 ≡ map (λ (y : Record). y.slot.0) (set l (p - 1) r)
  owned_set r = ap (λ (m : List ℕ). set m (p - 1) r.slot.0) w.owned_are ∙ sym (map-set (λ (y : Record). y.slot.0) l (p - 1) r)

  owned_same : (r : Record) → r.slot.0 ≡ was.slot.0 → x.owned ≡ map (λ (y : Record). y.slot.0) (set l (p - 1) r)
  owned_same r e = w.owned_are ∙ sym (map-set_same (λ (y : Record). y.slot.0) l (p - 1) r idle_record e)

  take_slots : was.region ≡ 0 → SlotAgrees Take p x (taken_in B g l p)
  unfolding taken_in
  take_slots e = record {
    slotted = record {
      has = same_slots g l (p - 1) h x.free w.has _ (sym (not_inside was 0 e (λ z. omega arith))) refl _ refl refl;
      owned_are = owned_same _ refl;
    };
    given_is = refl;
  }

  yes_slots : was.region ≡ 1 → is_valid g (ticket_of was) ≡ true → SlotAgrees Look p x (looked g l p)
  unfolding looked
  yes_slots e v =
      let k =
      look_slots g l (p - 1) h x.free w.has (row_not_empty g l s (p - 1) h x.free w.has e v) (row_short g l s (p - 1) h x.free w.has)
      (not_inside was 1 e (λ z. omega arith)) was.mark was.value.0 was.colour.0 in
      let new = rec 2 was.mark was.value.0 was.colour.0 (head_slot g.free) in
      rw v (record {
        slotted = record {
          has = k.0;
          owned_are = ap (λ (y : ℕ). set x.owned (p - 1) y) (sym k.1) ∙ owned_set new;
        };
        given_is = k.1;
      })

  no_slots : is_valid g (ticket_of was) ≡ false → SlotAgrees Look p x (looked g l p)
  unfolding looked
  no_slots v = rw v (record { slotted = w; given_is = refl })

  look_agrees : was.region ≡ 1 → SlotAgrees Look p x (looked g l p)
  look_agrees e = by_bool (is_valid g (ticket_of was)) (yes_slots e) no_slots

  back_agrees : was.region ≡ 2 → SlotAgrees Leave p x (left_in B g l p)
  unfolding left_in
  back_agrees e =
      let o : inside was ≡ true = eq-eqb was.region 2 e in
      let r = (w.has.own_slots (p - 1) h).inside_slot o in
      let own = get_or x.owned (p - 1) 0 in
      let z : cond (eqb own 0) x.free (x.free ++ (own ∷ [])) ≡ x.free ++ (was.slot.0 ∷ []) =
      ap (λ (b : Bool). cond b x.free (x.free ++ (own ∷ []))) (ne_eqb own 0 (λ y. omega (arith, owned_at, r.0)))
      ∙ ap (λ (y : ℕ). x.free ++ (y ∷ [])) owned_at in
      record {
        slotted = record {
          has =
              subst (λ (row : List ℕ). HasSlots (left_in B g l p).gate (left_in B g l p).list row) (sym z)
              (leave_slots g l (p - 1) h x.free w.has (row_shorter g l s (p - 1) h x.free w.has o) o was.mark _ refl refl);
          owned_are = owned_set (rec 0 was.mark 0 0 0);
        };
        given_is = refl;
      }

  -- "A handed-back turn returns no slot."
  hand_back_agrees : inside was ≡ false → SlotAgrees Leave p x (left_in B g l p)
  unfolding left_in
  hand_back_agrees o =
      let z : was.slot.0 ≡ 0 = (w.has.own_slots (p - 1) h).outside_slot o in
      let own = get_or x.owned (p - 1) 0 in
      let same : cond (eqb own 0) x.free (x.free ++ (own ∷ [])) ≡ x.free =
      ap (λ (b : Bool). cond b x.free (x.free ++ (own ∷ []))) (eq-eqb own 0 (owned_at ∙ z)) in
      let back : returned g.free was.slot.0 ≡ g.free =
      ap (λ (b : Bool). cond b g.free (set g.free (length (free_slots g.free)) was.slot.0)) (eq-eqb was.slot.0 0 z) in
      record {
        slotted = record {
          has =
              subst (λ (row : List ℕ). HasSlots (left_in B g l p).gate (left_in B g l p).list row) (sym same)
              (same_slots g l (p - 1) h x.free w.has (rec 0 was.mark 0 0 0) (sym o) (sym z) _ refl back);
          owned_are = owned_set (rec 0 was.mark 0 0 0);
        };
        given_is = refl;
      }

  place_slots : SlotAgrees Place p x (placed_in B g l p)
  unfolding placed_in
  place_slots = record { slotted = w; given_is = refl }

  mark_slots : (m : ℕ) → Slotted (marked m g l p).gate (marked m g l p).list x × ((shown (marked m g l p).answer).slot ≡ 0)
  unfolding marked
  mark_slots m = (
    record { has = same_slots g l (p - 1) h x.free w.has _ refl refl g refl refl; owned_are = owned_same _ refl },
    refl,
  )

  reg_is : (n : ℕ) → not (eqb was.region n) ≡ false → was.region ≡ n
  reg_is n e = eqb-true _ _ (not-false (eqb was.region n) e)

  refused : (c : Call) (n : ℕ) (o : Outcome) → (was.region ≡ n → SlotAgrees c p x o)
      → SlotAgrees c p x (refuse (eqb was.mark 1) IsStopped g l (refuse (not (eqb was.region n)) WrongRegion g l o))
  refused c n o f =
      refuse_slots c p x (eqb was.mark 1) _ g l _ w (λ a. refuse_slots c p x (not (eqb was.region n)) _ g l o w (λ b. f (reg_is n b)))

  pub called_slots : (c : Call) → SlotAgrees c p x (called_in B c g l p)
  unfolding called_in
  called_slots Take = refused Take 0 _ take_slots
  called_slots Look = refused Look 1 _ look_agrees
  called_slots Leave =
      refuse_slots Leave p x (eqb was.mark 1) _ g l _ w (λ a.
      refuse_slots Leave p x (idle was) _ g l _ w (λ b.
      refuse_slots Leave p x (waits_invalid g was) _ g l _ w (λ e. by_eq was.region 2 back_agrees (λ z. hand_back_agrees (ne_eqb _ _ z)))))
  called_slots Place = refused Place 1 _ (λ e. place_slots)
  called_slots Stop = refuse_slots Stop p x (eqb was.mark 1) _ g l _ w (λ e. record { slotted = (mark_slots 1).0; given_is = (mark_slots 1).1 })
  called_slots Wake = refuse_slots Wake p x (eqb was.mark 0) _ g l _ w (λ e. record { slotted = (mark_slots 0).0; given_is = (mark_slots 0).1 })

-- One call, on a gate whose tickets are sound in some block.
pub slot_step_in : {B : Block} (g : Gate) (l : List Record) → IsSoundIn B g l → length l ≡ g.n → (x : Slots) → Slotted g l x → (c : Call) (p : ℕ)
    → SlotAgrees c p x (call_in B c g l p)
unfolding call_in
slot_step_in {B} g l s n x w c p =
    refuse_slots c p x (not (eqb (length l) g.n)) _ g l _ w (λ e2.
    refuse_slots c p x (not (sound_in B g l)) _ g l _ w (λ e3.
    refuse_slots c p x (eqb p 0 || ltb g.n p) _ g l _ w (λ e4.
    let b = plugin_in g.n p e4 in
    called_slots g l s x w p (omega (arith, b.0, b.1)) c)))

-- One call on a sound gate: the queue's answer and the slot rule's, and both relations again.
pub record OwnStep (o : Outcome) (r : Reply) (h : Handed) : Type 0 where
  pub agree : Agree o r
  pub slotted : Slotted o.gate o.list h.slots
  pub given_is : (shown o.answer).slot ≡ h.given

pub own_step : (g : Gate) (l : List Record) (q : Queue) → Related g l q → (x : Slots) → Slotted g l x → (c : Call) (p : ℕ)
    → OwnStep (call c g l p) (queue_call c q p) (slot_call c p (queue_call c q p).said x)
own_step g l q r x w c p =
    let e = slots_i g l x.free w.has in
    let a = one_step g l q r e c p in
    let t : SlotAgrees c p x (call c g l p) =
    subst (SlotAgrees c p x) (sym (call_is c g l p e)) (slot_step_in g l r.is_sound r.len x w c p) in
    record {
      agree = a;
      slotted = subst (λ (z : Said). Slotted (call c g l p).gate (call c g l p).list (slot_call c p z x).slots) a.said t.slotted;
      given_is = t.given_is ∙ ap (λ (z : Said). (slot_call c p z x).given) a.said;
    }

-- At opening.
pub open_slotted : (year n k : ℕ) → Slotted (opened year n k).gate (opened year n k).list (open_slots n k)
open_slotted year n k = record {
  has = record {
    free_is = refl;
    row_slots = λ j h.
        let b : j < k = omega (arith, numbers_length 1 k) in
        (omega (arith, numbers_at 1 k j 0 b), omega (arith, numbers_at 1 k j 0 b));
    own_slots = λ i h. rw (get_or-replicate n i idle_record idle_record (omega (arith, length-replicate n idle_record)))
        (record { inside_slot = λ z. absurd (omega (arith, ap one_if z)); outside_slot = λ z. refl });
    once = λ s a b.
        omega (
          arith,
          numbers_once 1 k s a (omega arith),
          count_none (inside_with s) (replicate n idle_record) idle_record
              (λ i h. ap (inside_with s) (get_or-replicate n i idle_record idle_record (omega (arith, length-replicate n idle_record)))),
        );
  };
  owned_are = sym (map-replicate (λ (r : Record). r.slot.0) n idle_record);
}

pub open_slots_sound : (year n k : ℕ) → slots_sound (opened year n k).gate (opened year n k).list ≡ true
open_slots_sound year n k = slots_i (opened year n k).gate (opened year n k).list (numbers_from 1 k) (open_slotted year n k).has
