-- A turn after exactly so many returns (A.7), in any block that fits, and for shops in the gate's own.
--
-- The gate answers as a queue does, in which the plugin's position less k goes down by 1 with each accepted leave (QueueTurn). Before and after the
-- calls that is the plugin's place (`place_is_lem`), and a place of 0 is a valid ticket.
--
-- Main statements: `turn_after_returns`, `own_turn_after_returns`, `turn_is_exact`; `equal_ticket_not`, why the plugin must have had no accepted
-- leave.
use Prim.Native.Nat.{ℕ, ◌+◌, ◌-◌, ◌<◌, ◌≤◌}
use mathlib.Core.Path.{ap, ap₂, refl, subst, sym, ◌∙◌, ◌≡◌}
use mathlib.Core.Bool.{Bool, false, not, true, true≢false, ◌&&◌, ◌||◌}
use mathlib.Core.List.{List, [], ◌∷◌}
use mathlib.Core.Logic.{◌≢◌}
use native.Mathlib.Omega.{arith}
use lib.ListN.{get_or, length, set}
use lib.Seq.{get_or-set_other, get_or-set_same}
use lib.Dec.{eqb, ltb}
use borrow.Author.Tests.{eqb-false, eqb-true, le-leb, leb-true, lt-leb, not-false}
use Rattle.model.specs.Refusals.{Answered}
use Rattle.model.specs.declared.Answer.TheVariants.{Placed}
use Rattle.model.specs.declared.Call.{Call}
use Rattle.model.specs.declared.Call.TheVariants.{Leave, Look, Place, Stop, Take, Wake}
use Rattle.model.specs.declared.Gate.{Gate}
use Rattle.model.specs.declared.Record.{Record}
use Rattle.model.specs.Board.{SoundGate}
use Rattle.model.specs.Calls.{Outcome, Step, after, after_in, call, call_in, called_in, free_slots, idle_record, left_in, looked, marked, placed_in, record_of, refuse, step, taken_in, waits_invalid}
use Rattle.model.specs.Shown.{shown}
use Rattle.model.specs.Claim.{gate_trace_in, queue_after, queue_trace}
use Rattle.model.specs.Lists.{all, all_below, any, count, numbers_from, one_if}
use Rattle.model.specs.Queue.{Queue, Said, position, queue_call}
use Rattle.model.specs.Sound.{ahead, behind, count_right, counts_above_zero, counts_right, free_in_order, held, idle, lead_range_in, next_place, none_above_issue, none_pending_inside, others_number_k, pending_awaited, pending_in, places, record_in_range, records_in_range, slot_in_range, slot_once, slots_sound, sound, sound_in, spare_in, ticket_in_range, ticket_of, tickets_distinct, valid_colour_unheld, valid_held, words_range_in, year_in_range}
use Rattle.model.specs.Slots.{Slots}
use Rattle.model.specs.Steps.{Block, block, block_of, block_size, distance_in, free_colour, is_valid, leads, moved, new_colour, next_colour, returns_in, scan, ticket, year_block}
use Rattle.model.specs.Turn.{OwnTurnAfterReturns, TurnAfter, TurnAfterReturns, TurnIsExact, TurnOfEqualTicket, anyone, first_takes, is_leave, leave_and_take_twice, leaves, leaves_in, only}
use Rattle.model.proofs.AlikeRuns.{after_related_in}
use Rattle.model.proofs.Board.{sound_of}
use Rattle.model.proofs.GateIsQueue.{trace_same_in}
use Rattle.model.proofs.IsSound.{own_fits}
use Rattle.model.proofs.Logic.{and_false_first, and_r, bool_ext, by_bool, by_eq, clash, plugin_in}
use Rattle.model.proofs.OneStep.{call_is, call_sizes, one_step_in, own_block, place_is_lem}
use Rattle.model.proofs.QueueTurn.{Stood, call_stays, leaves_told, one_if_zero, run_stays}
use Rattle.model.proofs.RecordTests.{held_i, held_not}
use Rattle.model.proofs.Relation.{Related, RelatedIn, plugin_ticket, times}
use Rattle.model.proofs.Returns.{returns_valid, returns_zero}
use Rattle.model.proofs.SlotLaws.{slots_i}
use Rattle.model.proofs.SlotStep.{Slotted, own_step}
use Rattle.model.proofs.SomeQueue.{some_queue, some_slots}
use Rattle.std.specs.Prelude.{Ok}
use Rattle.model.specs.declared.Refusal.{Refusal}

-- The ticket of p is as it was, unless the call is an accepted leave of p.
record KeepsTicket (c : Call) (x p : ℕ) (l : List Record) (o : Outcome) : Type 0 where
  kept : (eqb x p && is_leave c && eqb (shown o.answer).number 0) ≡ false → plugin_ticket o.list p ≡ plugin_ticket l p

module _ (c : Call) (x p : ℕ) (l : List Record) where
  refuse_ticket : (b : Bool) (n : Refusal) (g : Gate) (o : Outcome) → (b ≡ false → KeepsTicket c x p l o) → KeepsTicket c x p l (refuse b n g l o)
  refuse_ticket true n g o f = record { kept = λ e. refl }
  refuse_ticket false n g o f = f refl

  other_ticket : (new : Record) → 1 ≤ x → 1 ≤ p → x ≢ p → plugin_ticket (set l (x - 1) new) p ≡ plugin_ticket l p
  other_ticket new a a' n = ap ticket_of (get_or-set_other l (x - 1) (p - 1) new idle_record (λ e. n (omega arith)))

  -- A record of x that keeps its ticket.
  own_ticket : (new : Record) → x - 1 < length l → ticket_of new ≡ ticket_of (record_of l x) → plugin_ticket (set l (x - 1) new) p ≡ plugin_ticket l p
  own_ticket new h t =
      by_eq (p - 1) (x - 1)
      (λ e. ap (λ (i : ℕ). ticket_of (get_or (set l (x - 1) new) i idle_record)) e ∙ ap ticket_of (get_or-set_same l (x - 1) new idle_record h) ∙ t ∙ ap (λ (i : ℕ). ticket_of (get_or l i idle_record)) (sym e))
      (λ e. ap ticket_of (get_or-set_other l (x - 1) (p - 1) new idle_record e))

module _ (B : Block) (g : Gate) (l : List Record) (p x : ℕ) (a : 1 ≤ p) (hd : held (record_of l p) ≡ true) (a' : 1 ≤ x) (h : x - 1 < length l) where
  take_ticket : idle (record_of l x) ≡ true → KeepsTicket Take x p l (taken_in B g l x)
  unfolding taken_in
  take_ticket e = record {
    kept = λ f. other_ticket Take x p l _ a' a (λ z. clash (held (record_of l p)) hd (held_not (record_of l p) (ap (λ (i : ℕ). (record_of l i).region) (sym z) ∙ eqb-true _ _ e)));
  }

  look_ticket : KeepsTicket Look x p l (looked g l x)
  unfolding looked
  look_ticket =
      by_bool (is_valid g (ticket_of (record_of l x)))
      (λ e. rw e (record { kept = λ f. own_ticket Look x p l _ h refl }))
      (λ e. rw e (record { kept = λ f. refl }))

  leave_ticket : KeepsTicket Leave x p l (left_in B g l x)
  unfolding left_in
  leave_ticket = record { kept = λ f. other_ticket Leave x p l _ a' a (eqb-false x p (and_false_first (eqb x p) f)) }

  place_ticket : KeepsTicket Place x p l (placed_in B g l x)
  unfolding placed_in
  place_ticket = record { kept = λ f. refl }

  mark_ticket : (c : Call) (m : ℕ) → KeepsTicket c x p l (marked m g l x)
  unfolding marked
  mark_ticket c m = record { kept = λ f. own_ticket c x p l _ h refl }

  called_ticket : (c : Call) → KeepsTicket c x p l (called_in B c g l x)
  unfolding called_in
  called_ticket Take =
      refuse_ticket Take x p l (eqb (record_of l x).mark 1) _ g _ (λ e.
      refuse_ticket Take x p l (not (eqb (record_of l x).region 0)) _ g _ (λ f. take_ticket (not-false (eqb (record_of l x).region 0) f)))
  called_ticket Look =
      refuse_ticket Look x p l (eqb (record_of l x).mark 1) _ g _ (λ e. refuse_ticket Look x p l (not (eqb (record_of l x).region 1)) _ g _ (λ f. look_ticket))
  called_ticket Leave =
      refuse_ticket Leave x p l (eqb (record_of l x).mark 1) _ g _ (λ e.
      refuse_ticket Leave x p l (idle (record_of l x)) _ g _ (λ f. refuse_ticket Leave x p l (waits_invalid g (record_of l x)) _ g _ (λ w. leave_ticket)))
  called_ticket Place =
      refuse_ticket Place x p l (eqb (record_of l x).mark 1) _ g _ (λ e. refuse_ticket Place x p l (not (eqb (record_of l x).region 1)) _ g _ (λ f. place_ticket))
  called_ticket Stop = refuse_ticket Stop x p l (eqb (record_of l x).mark 1) _ g _ (λ e. mark_ticket Stop 1)
  called_ticket Wake = refuse_ticket Wake x p l (eqb (record_of l x).mark 0) _ g _ (λ e. mark_ticket Wake 0)

call_ticket : (B : Block) (g : Gate) (l : List Record) (p : ℕ) → 1 ≤ p → held (record_of l p) ≡ true → (c : Call) (x : ℕ) → KeepsTicket c x p l (call_in B c g l x)
unfolding call_in
call_ticket B g l p a hd c x =
    refuse_ticket c x p l (not (eqb (length l) g.n)) _ g _ (λ e2.
    refuse_ticket c x p l (not (sound_in B g l)) _ g _ (λ e3.
    refuse_ticket c x p l (eqb x 0 || ltb g.n x) _ g _ (λ e4.
    let h = plugin_in g.n x e4 in
    let n : length l ≡ g.n = eqb-true _ _ (not-false (eqb (length l) g.n) e2) in
    called_ticket B g l p x a hd h.0 (omega (arith, h.0, h.1)) c)))

held_from : (b : Bool) → 0 < one_if b → b ≡ true
held_from true h = refl
held_from false h = absurd (omega arith)

-- In a list of calls.
run_ticket : {B : Block} (g : Gate) (l : List Record) (q : Queue) → RelatedIn B g l q → (p : ℕ) → 1 ≤ p → p ≤ g.n → held (record_of l p) ≡ true → (s : List Step)
    → leaves_in B (only p) g l s ≡ 0 → (held (record_of (after_in B g l s).list p) ≡ true) × (plugin_ticket (after_in B g l s).list p ≡ plugin_ticket l p)
unfolding leaves_in after_in
run_ticket g l q r p a b hd [] e = (hd, refl)
run_ticket {B} g l q r p a b hd (step c x ∷ s) e =
    let o = call_in B c g l x in
    let in_row : 0 < times p q.row = omega (arith, r.row_times p a b, ap one_if hd) in
    let z = one_if_zero (eqb x p && is_leave c && eqb (shown o.answer).number 0) _ e in
    let agrees = one_step_in g l q r c x in
    let same : (shown o.answer).number ≡ (queue_call c q x).said.number = ap (λ (y : Said). y.number) agrees.said in
    let r' = agrees.related in
    let b' : p ≤ o.gate.n = omega (arith, (call_sizes B g l x c).n_kept) in
    let hd' : held (record_of o.list p) ≡ true =
    held_from _ (omega (arith, (call_stays g l q r p in_row c x).still (ap (λ (y : ℕ). eqb x p && is_leave c && eqb y 0) (sym same) ∙ z.0), r'.row_times p a b')) in
    let t = run_ticket o.gate o.list (queue_call c q x).queue r' p a b' hd' s z.1 in
    (t.0, t.1 ∙ (call_ticket B g l p a hd c x).kept z.0)

after_n : (B : Block) (g : Gate) (l : List Record) (s : List Step) → (after_in B g l s).gate.n ≡ g.n
unfolding after_in
after_n B g l [] = refl
after_n B g l (step c x ∷ s) = after_n B (call_in B c g l x).gate (call_in B c g l x).list s ∙ (call_sizes B g l x c).n_kept

-- The accepted leaves, counted from the trace.
leaves_told_lem : (B : Block) (f : ℕ → Bool) (g : Gate) (l : List Record) (s : List Step) → leaves_in B f g l s ≡ leaves_told f s (gate_trace_in B g l s)
unfolding leaves_in leaves_told gate_trace_in
leaves_told_lem B f g l [] = refl
leaves_told_lem B f g l (step c p ∷ s) =
    let o = call_in B c g l p in
    ap (λ (n : ℕ). one_if (f p && is_leave c && eqb (shown o.answer).number 0) + n) (leaves_told_lem B f o.gate o.list s)

least : (r n : ℕ) → r - n ≡ 0 → r ≤ n
least r n e = omega arith

none_left : (r n : ℕ) → r ≤ n → r - n ≡ 0
none_left r n h = omega arith

-- After them the returns are what the place said, less the accepted leaves.
turn : (B : Block) (g : Gate) (l : List Record) (p r : ℕ) (s : List Step) (q : Queue) → RelatedIn B g l q → 1 ≤ p → p ≤ g.n → held (record_of l p) ≡ true
    → returns_in B g (plugin_ticket l p) ≡ r → Stood p q s → leaves_in B anyone g l s ≡ leaves_told anyone s (queue_trace q s)
    → (held (record_of (after_in B g l s).list p) ≡ true) × (plugin_ticket (after_in B g l s).list p ≡ plugin_ticket l p)
    → TurnAfter (after_in B g l s) p (plugin_ticket l p) r (leaves_in B anyone g l s)
turn B g l p r s q rel a b hd told stood same keeps =
    let g' = (after_in B g l s).gate in
    let l' = (after_in B g l s).list in
    let rel' = after_related_in g l q rel s in
    let b' : p ≤ g'.n = omega (arith, after_n B g l s) in
    let h : p - 1 < length l' = omega (arith, rel'.len) in
    let n = leaves_in B anyone g l s in
    let left : returns_in B g' (plugin_ticket l' p) ≡ r - n =
    place_is_lem g' l' (queue_after q s) rel' p a b' keeps.0
    ∙ ap (λ (k : ℕ). position p (queue_after q s).row - k) stood.k_same
    ∙ stood.stands
    ∙ ap₂ (λ (x y : ℕ). x - y) (sym (place_is_lem g l q rel p a b hd) ∙ told) (sym same) in
    record {
      still_held = keeps.0;
      same_ticket_lem = keeps.1;
      valid_when =
          ap (is_valid g') (sym keeps.1)
          ∙ bool_ext _ _
          (λ v. le-leb r n (least r n (sym left ∙ returns_valid B g' (plugin_ticket l' p) v)))
          (λ v. returns_zero g' l' rel'.is_sound (p - 1) h keeps.0 (left ∙ none_left r n (leb-true r n v)));
    }

-- A place that was accepted: its gate is sound, its plugin waits.
refuse_placed : (b : Bool) (n : Refusal) (g : Gate) (l : List Record) (o : Outcome) (r : ℕ) → (refuse b n g l o).answer ≡ Ok (Placed r) → (b ≡ false) × (o.answer ≡ Ok (Placed r))
refuse_placed true n g l o r e = let z : ◌≡◌ {A = ℕ} 0 1 = cc in absurd (omega arith)
refuse_placed false n g l o r e = (refl, e)

placed_inj : (r t : ℕ) → ◌≡◌ {A = Answered} (Ok (Placed r)) (Ok (Placed t)) → r ≡ t
placed_inj r t e = ap (λ (y : Answered). (shown y).place) e

record PlaceTold (B : Block) (g : Gate) (l : List Record) (p r : ℕ) : Type 0 where
  list_len : length l ≡ g.n
  is_sound : sound_in B g l ≡ true
  low : 1 ≤ p
  high : p ≤ g.n
  waits : (record_of l p).region ≡ 1
  returns_are : returns_in B g (plugin_ticket l p) ≡ r

place_told : (B : Block) (g : Gate) (l : List Record) (p r : ℕ) → (call_in B Place g l p).answer ≡ Ok (Placed r) → PlaceTold B g l p r
unfolding call_in called_in placed_in
place_told B g l p r e =
    let e2 = refuse_placed (not (eqb (length l) g.n)) _ g l _ r e in
    let e3 = refuse_placed (not (sound_in B g l)) _ g l _ r e2.1 in
    let e4 = refuse_placed (eqb p 0 || ltb g.n p) _ g l _ r e3.1 in
    let e5 = refuse_placed (eqb (record_of l p).mark 1) _ g l _ r e4.1 in
    let e6 = refuse_placed (not (eqb (record_of l p).region 1)) _ g l _ r e5.1 in
    let h = plugin_in g.n p e4.0 in
    record {
      list_len = eqb-true _ _ (not-false (eqb (length l) g.n) e2.0);
      is_sound = not-false (sound_in B g l) e3.0;
      low = h.0;
      high = h.1;
      waits = eqb-true _ _ (not-false (eqb (record_of l p).region 1) e6.0);
      returns_are = placed_inj _ _ e6.1;
    }

pub turn_after_returns : TurnAfterReturns
turn_after_returns b g l sd counts p r asked s none =
    let w = place_told b g l p r asked in
    let hd : held (record_of l p) ≡ true = held_i (record_of l p) (λ z. omega (arith, w.waits)) in
    let sq = some_queue g l (sound_of sd) sd.list_len counts in
    let q = sq.0 in
    let rel = sq.1 in
    let in_row : 0 < times p q.row = omega (arith, rel.row_times p w.low w.high, ap one_if hd) in
    let same = trace_same_in g l q rel s in
    let stood = run_stays g l q rel p in_row s (ap (leaves_told (only p) s) (sym same) ∙ sym (leaves_told_lem b (only p) g l s) ∙ none) in
    let keeps = run_ticket g l q rel p w.low w.high hd s none in
    turn b g l p r s q rel w.low w.high hd w.returns_are stood (leaves_told_lem b anyone g l s ∙ ap (leaves_told anyone s) same) keeps

-- In the gate's own block, which no call changes. On a sound gate a call is the block's: the slots are sound, and stay so.
module _ (c : Call) (g : Gate) (l : List Record) (q : Queue) (r : Related g l q) (x : Slots) (w : Slotted g l x) (p : ℕ) where
  own_call : call c g l p ≡ call_in (block_of g) c g l p
  own_call = call_is c g l p (slots_i g l x.free w.has)

  block_kept : block_of (call c g l p).gate ≡ block_of g
  block_kept = ap (λ (o : Outcome). block_of o.gate) own_call ∙ sym (own_block g (call_in (block_of g) c g l p) (call_sizes (block_of g) g l p c))

own_after : (g : Gate) (l : List Record) (q : Queue) → Related g l q → (x : Slots) → Slotted g l x → (s : List Step) → after g l s ≡ after_in (block_of g) g l s
unfolding after after_in
own_after g l q r x w [] = refl
own_after g l q r x w (step c p ∷ s) =
    let o = call c g l p in
    let a = own_step g l q r x w c p in
    own_after o.gate o.list (queue_call c q p).queue a.agree.related _ a.slotted s
    ∙ ap₂ (λ (b : Block) (u : Outcome). after_in b u.gate u.list s) (block_kept c g l q r x w p) (own_call c g l q r x w p)

own_leaves : (f : ℕ → Bool) (g : Gate) (l : List Record) (q : Queue) → Related g l q → (x : Slots) → Slotted g l x → (s : List Step)
    → leaves f g l s ≡ leaves_in (block_of g) f g l s
unfolding leaves leaves_in
own_leaves f g l q r x w [] = refl
own_leaves f g l q r x w (step c p ∷ s) =
    let o = call c g l p in
    let a = own_step g l q r x w c p in
    ap (λ (n : ℕ). one_if (f p && is_leave c && eqb (shown o.answer).number 0) + n)
    (own_leaves f o.gate o.list (queue_call c q p).queue a.agree.related _ a.slotted s)
    ∙ ap₂ (λ (b : Block) (u : Outcome). one_if (f p && is_leave c && eqb (shown u.answer).number 0) + leaves_in b f u.gate u.list s)
    (block_kept c g l q r x w p) (own_call c g l q r x w p)

-- A gate that answers a place is sound.
placed_sound : (g : Gate) (l : List Record) (p r : ℕ) → (call Place g l p).answer ≡ Ok (Placed r) → sound g l ≡ true
unfolding call
placed_sound g l p r e =
    let e2 = refuse_placed (not (eqb (length l) g.n)) _ g l _ r e in
    not-false (sound g l) (refuse_placed (not (sound g l)) _ g l _ r e2.1).0

pub own_turn_after_returns : OwnTurnAfterReturns
own_turn_after_returns g l counts free p r asked s none =
    let ok = placed_sound g l p r asked in
    let x = some_slots g l ok free in
    let asked_in = ap (λ (o : Outcome). o.answer) (sym (call_is Place g l p (and_r (sound_in (block_of g) g l) _ ok))) ∙ asked in
    let w = place_told (block_of g) g l p r asked_in in
    let sd : SoundGate (block_of g) g l = record { fits = own_fits g l w.is_sound; is_sound = w.is_sound; list_len = w.list_len } in
    let q = some_queue g l (sound_of sd) sd.list_len counts in
    let told = own_leaves (only p) g l q.0 q.1 x.0 x.1 s in
    let t = turn_after_returns (block_of g) g l sd counts p r asked_in s (sym told ∙ none) in
    subst (λ (o : Outcome). TurnAfter o p (plugin_ticket l p) r (leaves anyone g l s)) (sym (own_after g l q.0 q.1 x.0 x.1 s))
    (subst (TurnAfter (after_in (block_of g) g l s) p (plugin_ticket l p) r) (sym (own_leaves anyone g l q.0 q.1 x.0 x.1 s)) t)

pub turn_is_exact : TurnIsExact
turn_is_exact g l counts free p r asked s none =
    let t = (own_turn_after_returns g l counts free p r asked s none).valid_when in
    record { not_earlier = λ h. t ∙ lt-leb r (leaves anyone g l s) h; not_later = λ h. t ∙ le-leb r (leaves anyone g l s) h }

-- The run of a plugin that comes to hold an equal ticket: what the sentence about equal tickets would give, and what is so.
ticket_first : ticket_of (record_of first_takes.list 2) ≡ ticket 0 1
unfolding after leaves call called_in left_in placed_in returns_in distance_in taken_in sound_in counts_right count_right none_pending_inside valid_held others_number_k pending_awaited valid_colour_unheld none_above_issue tickets_distinct lead_range_in records_in_range record_in_range counts_above_zero words_range_in year_in_range ticket_in_range spare_in pending_in places next_place behind ahead is_valid moved new_colour scan free_colour next_colour leads year_block block block_size slots_sound slot_once slot_in_range free_in_order free_slots numbers_from all_below any all count
ticket_first = refl

ticket_again : ticket_of (record_of (after first_takes.gate first_takes.list leave_and_take_twice).list 2) ≡ ticket 0 1
unfolding after leaves call called_in left_in placed_in returns_in distance_in taken_in sound_in counts_right count_right none_pending_inside valid_held others_number_k pending_awaited valid_colour_unheld none_above_issue tickets_distinct lead_range_in records_in_range record_in_range counts_above_zero words_range_in year_in_range ticket_in_range spare_in pending_in places next_place behind ahead is_valid moved new_colour scan free_colour next_colour leads year_block block block_size slots_sound slot_once slot_in_range free_in_order free_slots numbers_from all_below any all count
ticket_again = refl

pub equal_ticket_not : TurnOfEqualTicket → ⊥
unfolding after leaves call called_in left_in placed_in returns_in distance_in taken_in sound_in counts_right count_right none_pending_inside valid_held others_number_k pending_awaited valid_colour_unheld none_above_issue tickets_distinct lead_range_in records_in_range record_in_range counts_above_zero words_range_in year_in_range ticket_in_range spare_in pending_in places next_place behind ahead is_valid moved new_colour scan free_colour next_colour leads year_block block block_size slots_sound slot_once slot_in_range free_in_order free_slots numbers_from all_below any all count
equal_ticket_not f =
    true≢false (sym (f first_takes.gate first_takes.list refl refl 2 1 refl leave_and_take_twice refl (ticket_again ∙ sym ticket_first)))
