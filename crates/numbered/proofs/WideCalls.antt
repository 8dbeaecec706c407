-- Each call of the numbered gate that is not answered 11 is the wide gate's call in the endless block: 11 stands exactly where that block would end,
-- so no new colour is ever asked for. So what holds of every block holds of it.
--
-- Main statements: `call_wide` (one call), `step_related` (it keeps the relation to the queue), `open_wide` (the opening has it), `trace_wide` (a list
-- of calls).
use Prim.Native.Nat.{ℕ, ◌+◌, ◌-◌, ◌%◌, ◌≤◌, ◌<◌}
use mathlib.Core.Path.{◌≡◌, refl, sym, ap, ap₂, subst, ◌∙◌}
use mathlib.Core.Bool.{Bool, true, false, true≢false, not, ◌&&◌, ◌||◌}
use mathlib.Core.List.{List, [], ◌∷◌, map}
use mathlib.Core.Logic.{◌≢◌}
use native.Mathlib.Nat.{add-mod_right, mod-eq_of_lt}
use native.Mathlib.Omega.{arith}
use lib.ListN.{get_or, length, replicate, set}
use lib.Dec.{eqb, ltb}
use borrow.Author.Tests.{eqb-false, eqb-true, leb-false, lt-ltb, not-false, not-true}
use lib.Seq.{map-set}
use lib.LanesLaws.{map-replicate}
use Rattle.model.specs.declared.Ticket.{Ticket}
use Rattle.model.specs.declared.Gate.{Gate}
use Rattle.model.specs.declared.Record.{Record}
use Rattle.model.specs.declared.Call.{Call}
use Rattle.model.specs.declared.Call.TheVariants.{Leave, Look, Place, Stop, Take, Wake}
use Rattle.numbered.specs.declared.NumberedGate.{NumberedGate}
use Rattle.numbered.specs.declared.NumberedRecord.{NumberedRecord}
use Rattle.numbered.specs.Calls.{NumberedAnswered}
use Rattle.model.specs.Lists.{all, numbers_from}
use Rattle.model.specs.Steps.{col, distance_in, is_valid, last_value, moved, returns_in, ticket, val}
use Rattle.model.specs.Sound.{held, idle, sound_in, ticket_of}
use Rattle.model.specs.Calls.{Outcome, Step, called_in, call_in, count_down, count_up, idle_record, left_in, looked, marked, moved_up, placed_in, rec, record_of, refuse, returned, step, taken_in, waits_invalid, with_free, with_issue, with_valid}
use Rattle.model.specs.Opening.{open_accepts, open_in_range, opening_in}
use Rattle.model.specs.Queue.{Queue, Said, empty_queue, queue_call}
use Rattle.model.specs.Claim.{Entry, gate_entry, gate_trace_in}
use Rattle.model.proofs.Logic.{and_i, and_l, and_r, by_bool, not_not, plugin_in}
use Rattle.model.proofs.OneStep.{one_step_in, related_free, said_of}
use Rattle.model.proofs.Opening.{open_related_in}
use Rattle.model.proofs.GateIsQueue.{entry}
use Rattle.model.proofs.Relation.{RelatedIn}
use Rattle.numbered.specs.Sound.{has_ticket, is_idle, not_above_valid, sizes_allowed, sound_numbered}
use Rattle.numbered.specs.Calls.{NumberedOutcome, call_numbered, called_numbered, greatest, idle_numbered, left_numbered, looked_numbered, marked_numbered, numbered_record, opened_numbered, placed_numbered, record_at, refuse_numbered, shown_numbered, taken_numbered, waits_above}
use Rattle.numbered.specs.Claim.{no_eleven, numbered_entry, numbered_trace}
use Rattle.numbered.proofs.Endless.{endless, endless_first, endless_size, wide, wide_list, wide_record}
use Rattle.numbered.proofs.IsSoundNumbered.{IsSoundNumbered, numbered_use, sizes_use}
use Rattle.numbered.proofs.WideSound.{numbered_sound_is, wide_at, wide_fits, wide_length}
use Rattle.model.specs.declared.Refusal.{Refusal}
use Rattle.model.specs.declared.Refusal.TheVariants.{CounterFull, IsStopped, NoSuchPlugin, NotSound, NotStopped, NotYetValid, WrongLength, WrongRegion}

-- The outcome is not an 11.
abbrev pub NotEleven : NumberedOutcome → Type 0
NotEleven o = (shown_numbered o.answer).number ≢ 11

-- An answer, as the queue gives it: of a ticket it knows nothing.
abbrev pub said_numbered : NumberedAnswered → Said
said_numbered a = record { number = (shown_numbered a).number; yes = (shown_numbered a).yes; place = (shown_numbered a).place }

-- What a call of the numbered gate leaves and says is what one of the wide gate does.
pub record Wide (o : NumberedOutcome) (w : Outcome) : Type 0 where
  pub gate_is : wide o.gate ≡ w.gate
  pub list_is : wide_list o.list ≡ w.list
  pub said_is : said_numbered o.answer ≡ said_of w.answer

refuse_wide : (b b' : Bool) (n : Refusal) (g : NumberedGate) (l : List NumberedRecord) (o : NumberedOutcome) (w : Outcome) → b ≡ b' → (b ≡ false → NotEleven o → Wide o w)
    → NotEleven (refuse_numbered b n g l o) → Wide (refuse_numbered b n g l o) (refuse b' n (wide g) (wide_list l) w)
refuse_wide true true n g l o w e f ne = record { gate_is = refl; list_is = refl; said_is = refl }
refuse_wide true false n g l o w e f ne = absurd (true≢false e)
refuse_wide false true n g l o w e f ne = absurd (true≢false (sym e))
refuse_wide false false n g l o w e f ne = f refl ne

-- No slot is free, and none goes out.
no_slots : moved_up (replicate 64 0) ≡ replicate 64 0
unfolding numbers_from
no_slots = refl

module _ (g : NumberedGate) (l : List NumberedRecord) (p : ℕ) where
  abbrev r : NumberedRecord
  r = record_at l p

  rec_wide : record_of (wide_list l) p ≡ wide_record r
  rec_wide = wide_at l (p - 1)

  -- A word that is not at its greatest goes up by 1.
  moved_wide : (a o : ℕ) → a < endless.size → a ≢ greatest → moved endless (wide g) (ticket a 0) (ticket o 0) ≡ ticket (a + 1) 0
  unfolding moved
  moved_wide a o h n = simp (lt-ltb a (last_value endless) (omega (arith, endless_first, endless_size, n)))

  -- ISSUE goes up by 1 in a take, VALID in a leave.
  pub taken_issue : (taken_numbered g l p).gate.issue ≡ g.issue + 1
  unfolding taken_numbered
  taken_issue = omega arith

  pub left_valid : (left_numbered g l p).gate.valid ≡ g.valid + 1
  unfolding left_numbered
  left_valid = omega arith

  take_wide : g.issue < endless.size → g.issue ≢ greatest → Wide (taken_numbered g l p) (taken_in endless (wide g) (wide_list l) p)
  unfolding taken_numbered taken_in
  take_wide h n =
      let t : ticket (taken_numbered g l p).gate.issue 0 ≡ moved endless (wide g) (ticket g.issue 0) (ticket g.valid 0) =
      ap (λ (x : ℕ). ticket x 0) taken_issue ∙ sym (moved_wide g.issue g.valid h n) in
      record {
        gate_is = ap (with_issue (wide g)) t;
        list_is =
            map-set wide_record l (p - 1) (numbered_record 1 r.mark (taken_numbered g l p).gate.issue)
            ∙ ap₂ (λ (t : Ticket) (x : Record). set (wide_list l) (p - 1) (rec 1 x.mark (val t) (col t) x.slot.0)) t (sym rec_wide);
        said_is = refl;
      }

  leave_wide : g.valid < endless.size → g.valid ≢ greatest → Wide (left_numbered g l p) (left_in endless (wide g) (wide_list l) p)
  unfolding left_numbered left_in
  leave_wide h n =
      let up : g.k ≡ g.k + 1 - 1 = omega arith in
      let t : ticket (left_numbered g l p).gate.valid 0 ≡ moved endless (wide g) (ticket g.valid 0) (ticket g.issue 0) =
      ap (λ (x : ℕ). ticket x 0) left_valid ∙ sym (moved_wide g.valid g.issue h n) in
      record {
        gate_is =
            ap (λ (k : ℕ). with_valid (wide g) (ticket (left_numbered g l p).gate.valid 0) (k ∷ replicate 64 0)) up
            ∙ ap₂ (λ (t : Ticket) (x : Record).
            with_free (with_valid (wide g) t (count_down (count_up (wide g).counts (col t)) x.colour.0)) (returned (wide g).free x.slot.0)) t
            (sym rec_wide);
        list_is =
            map-set wide_record l (p - 1) (numbered_record 0 r.mark 0)
            ∙ ap (λ (x : Record). set (wide_list l) (p - 1) (rec 0 x.mark 0 0 0)) (sym rec_wide);
        said_is = refl;
      }

  -- A ticket is valid just when it is not above VALID.
  valid_wide : (t : ℕ) → is_valid (wide g) (ticket t 0) ≡ not_above_valid g t
  unfolding is_valid
  valid_wide t = refl

  look_wide : Wide (looked_numbered g l p) (looked (wide g) (wide_list l) p)
  unfolding looked_numbered looked
  look_wide =
      rw rec_wide
      (by_bool (not_above_valid g r.ticket)
      (λ e. rw (e, valid_wide r.ticket ∙ e) (record {
        gate_is = ap (with_free (wide g)) (sym no_slots);
        list_is = map-set wide_record l (p - 1) (numbered_record 2 r.mark r.ticket);
        said_is = refl;
      }))
      (λ e. rw (e, valid_wide r.ticket ∙ e) (record { gate_is = refl; list_is = refl; said_is = refl })))

  distance_wide : (t : ℕ) → g.valid ≤ t → t < endless.size → distance_in endless (wide g) (ticket t 0) ≡ t - g.valid
  unfolding distance_in
  distance_wide t a b =
      let e : t + endless.size - g.valid ≡ (t - g.valid) + endless.size = omega arith in
      ap (λ (x : ℕ). x % endless.size) e ∙ add-mod_right (t - g.valid) endless.size ∙ mod-eq_of_lt (omega arith)

  -- A place is the number of returns.
  returns_wide : r.ticket < endless.size → (shown_numbered (placed_numbered g l p).answer).place ≡ returns_in endless (wide g) (ticket_of (wide_record r))
  unfolding placed_numbered returns_in is_valid
  returns_wide h =
      by_bool (not_above_valid g r.ticket)
      (λ e. rw e refl)
      (λ e. rw e (omega (arith, distance_wide r.ticket (omega (arith, leb-false r.ticket g.valid e)) h)))

  place_wide : r.ticket < endless.size → Wide (placed_numbered g l p) (placed_in endless (wide g) (wide_list l) p)
  unfolding placed_numbered placed_in
  place_wide h = record {
    gate_is = refl;
    list_is = refl;
    said_is =
        ap (λ (x : ℕ). record { number = 0; yes = false; place = x })
        (returns_wide h ∙ ap (λ (x : Record). returns_in endless (wide g) (ticket_of x)) (sym rec_wide));
  }

  mark_wide : (m : ℕ) → Wide (marked_numbered m g l p) (marked m (wide g) (wide_list l) p)
  unfolding marked_numbered marked
  mark_wide m = record {
    gate_is = refl;
    list_is =
        map-set wide_record l (p - 1) (numbered_record r.region m r.ticket)
        ∙ ap (λ (x : Record). set (wide_list l) (p - 1) (rec x.region m x.value.0 x.colour.0 x.slot.0)) (sym rec_wide);
    said_is = refl;
  }

  mark_same : (m : ℕ) → eqb r.mark m ≡ eqb (record_of (wide_list l) p).mark m
  mark_same m = ap (λ (x : Record). eqb x.mark m) (sym rec_wide)

  region_same : (m : ℕ) → not (eqb r.region m) ≡ not (eqb (record_of (wide_list l) p).region m)
  region_same m = ap (λ (x : Record). not (eqb x.region m)) (sym rec_wide)

  idle_same : is_idle r ≡ idle (record_of (wide_list l) p)
  idle_same = ap idle (sym rec_wide)

  above_same : waits_above g r ≡ waits_invalid (wide g) (record_of (wide_list l) p)
  unfolding is_valid
  above_same = ap (waits_invalid (wide g)) (sym rec_wide)

  -- Refusals 5 and 6.
  refused_wide : (m : ℕ) (o : NumberedOutcome) (w : Outcome) → (NotEleven o → Wide o w)
      → NotEleven (refuse_numbered (eqb r.mark 1) IsStopped g l (refuse_numbered (not (eqb r.region m)) WrongRegion g l o))
      → Wide (refuse_numbered (eqb r.mark 1) IsStopped g l (refuse_numbered (not (eqb r.region m)) WrongRegion g l o))
      (refuse (eqb (record_of (wide_list l) p).mark 1) IsStopped (wide g) (wide_list l) (refuse (not (eqb (record_of (wide_list l) p).region m)) WrongRegion (wide g) (wide_list l) w))
  refused_wide m o w f =
      refuse_wide (eqb r.mark 1) _ IsStopped g l _ _ (mark_same 1) (λ e. refuse_wide (not (eqb r.region m)) _ WrongRegion g l _ _ (region_same m) (λ e'. f))

  -- 11 does not come.
  past_eleven : (b : Bool) (o : NumberedOutcome) (w : Outcome) → (b ≡ false → Wide o w) → NotEleven (refuse_numbered b CounterFull g l o) → Wide (refuse_numbered b CounterFull g l o) w
  past_eleven true o w f ne = absurd (ne refl)
  past_eleven false o w f ne = f refl

  called_wide : g.issue < endless.size → g.valid < endless.size → r.ticket < endless.size → (c : Call) → NotEleven (called_numbered c g l p)
      → Wide (called_numbered c g l p) (called_in endless c (wide g) (wide_list l) p)
  unfolding called_numbered called_in
  called_wide i v t Take = refused_wide 0 _ _ (past_eleven (eqb g.issue greatest) _ _ (λ e. take_wide i (eqb-false _ _ e)))
  called_wide i v t Look = refused_wide 1 _ _ (λ ne. look_wide)
  called_wide i v t Leave =
      refuse_wide (eqb r.mark 1) _ IsStopped g l _ _ (mark_same 1) (λ e.
      refuse_wide (is_idle r) _ WrongRegion g l _ _ idle_same (λ e'.
      refuse_wide (waits_above g r) _ NotYetValid g l _ _ above_same (λ e''.
      past_eleven (eqb g.valid greatest) _ _ (λ f. leave_wide v (eqb-false _ _ f)))))
  called_wide i v t Place = refused_wide 1 _ _ (λ ne. place_wide t)
  called_wide i v t Stop = refuse_wide (eqb r.mark 1) _ IsStopped g l _ _ (mark_same 1) (λ e ne. mark_wide 1)
  called_wide i v t Wake = refuse_wide (eqb r.mark 0) _ NotStopped g l _ _ (mark_same 0) (λ e ne. mark_wide 0)

-- The ticket of a record of a sound list is in range.
ticket_in : (g : NumberedGate) (l : List NumberedRecord) → g.issue < endless.size → IsSoundNumbered g l → (i : ℕ) → i < length l → (get_or l i idle_numbered).ticket < endless.size
ticket_in g l h s i b =
    by_bool (eqb (get_or l i idle_numbered).region 0)
    (λ e. omega (arith, s.idle_ticket i b (eqb-true _ _ e), endless_size))
    (λ e. omega (arith, s.issue_top i b (not_not _ e)))

-- Each call but an 11 is the wide gate's. That both counters are in range is what their type says.
pub call_wide : (g : NumberedGate) (l : List NumberedRecord) → g.issue < endless.size → g.valid < endless.size → (c : Call) (p : ℕ) → NotEleven (call_numbered c g l p)
    → Wide (call_numbered c g l p) (call_in endless c (wide g) (wide_list l) p)
unfolding call_numbered call_in
call_wide g l i v c p =
    refuse_wide (not (eqb (length l) g.n)) (not (eqb (length (wide_list l)) g.n)) WrongLength g l _ _ (ap (λ (m : ℕ). not (eqb m g.n)) (sym (wide_length l)))
    (λ e2. refuse_wide (not (sound_numbered g l)) (not (sound_in endless (wide g) (wide_list l))) NotSound g l _ _ (ap not (numbered_sound_is g l i v))
    (λ e3. refuse_wide (eqb p 0 || ltb g.n p) (eqb p 0 || ltb g.n p) NoSuchPlugin g l _ _ refl
    (λ e4.
    let b = plugin_in g.n p e4 in
    let n : length l ≡ g.n = eqb-true _ _ (not-false _ e2) in
    called_wide g l p i v (ticket_in g l i (numbered_use g l (not-false _ e3)) (p - 1) (omega arith)) c)))

-- R of the numbered gate: that of the wide gate in the endless block.
abbrev pub RelatedNumbered : NumberedGate → List NumberedRecord → Queue → Type 0
RelatedNumbered g l q = RelatedIn endless (wide g) (wide_list l) q

module _ (g : NumberedGate) (l : List NumberedRecord) (q : Queue) (rel : RelatedNumbered g l q) (c : Call) (p : ℕ) (ne : NotEleven (call_numbered c g l p)) where
  -- From R a call is the wide gate's ..
  pub step_wide : Wide (call_numbered c g l p) (call_in endless c (wide g) (wide_list l) p)
  step_wide =
      call_wide g l (omega (arith, rel.is_sound.issue_in.high, endless_first)) (omega (arith, rel.is_sound.valid_in_lem.high, endless_first)) c p ne

  -- .. and keeps R.
  pub step_related : RelatedNumbered (call_numbered c g l p).gate (call_numbered c g l p).list (queue_call c q p).queue
  step_related =
      let o = call_numbered c g l p in
      let w = call_in endless c (wide g) (wide_list l) p in
      subst (λ (m : List Record). RelatedIn endless (wide o.gate) m (queue_call c q p).queue) (sym step_wide.list_is)
      (subst (λ (x : Gate). RelatedIn endless x w.list (queue_call c q p).queue) (sym step_wide.gate_is) (one_step_in (wide g) (wide_list l) q rel c p).related)

-- A gate of 1989 opens with the same N and k.
pub gate_opens : (n k : ℕ) → sizes_allowed n k ≡ true → open_accepts 1989 n k ≡ true
unfolding sizes_allowed open_accepts open_in_range
gate_opens n k e = and_i _ _ (and_i _ _ e refl) refl

-- The opening is that of the endless block, but for the slots.
opening_wide : (n k : ℕ) → with_free (opening_in endless 1989 n k) (replicate 64 0) ≡ wide (opened_numbered n k).gate
opening_wide n k =
    let i : endless.first ≡ (opened_numbered n k).gate.issue = omega (arith, endless_first) in
    let v : endless.first + k ≡ (opened_numbered n k).gate.valid = omega (arith, endless_first) in
    ap₂ (λ (x y : ℕ). with_free (with_valid (with_issue (opening_in endless 1989 n k) (ticket x 0)) (ticket y 0) (k ∷ replicate 64 0)) (replicate 64 0)) i v

pub open_wide : (n k : ℕ) → sizes_allowed n k ≡ true → RelatedNumbered (opened_numbered n k).gate (opened_numbered n k).list (empty_queue n k)
open_wide n k e =
    let b = sizes_use n k e in
    let s = open_related_in endless 1989 n k (gate_opens n k e) (wide_fits (opened_numbered n k).gate b.1 b.3) in
    subst (λ (m : List Record). RelatedIn endless (wide (opened_numbered n k).gate) m (empty_queue n k)) (sym (map-replicate wide_record n idle_numbered))
    (subst (λ (x : Gate). RelatedIn endless x (replicate n idle_record) (empty_queue n k)) (opening_wide n k) (related_free (replicate 64 0) s))

-- An entry of the numbered gate is the wide gate's.
map_wide : {C : Type 0} (f : Record → C) (h : NumberedRecord → C) (l : List NumberedRecord) → ((r : NumberedRecord) → f (wide_record r) ≡ h r) → map h l ≡ map f (wide_list l)
map_wide f h [] e = refl
map_wide f h (r ∷ l) e = ap₂ (λ a t. a ∷ t) (sym (e r)) (map_wide f h l e)

-- Regions, stop marks and valid tickets.
abbrev stands_as : Said → Gate → List Record → Entry
stands_as a g l = entry a (map (λ r. r.region) l) (map (λ r. r.mark) l) (map (λ r. held r && is_valid g (ticket_of r)) l)

entry_wide : (o : NumberedOutcome) (w : Outcome) → Wide o w → numbered_entry o ≡ gate_entry w
entry_wide o w h =
    let a = said_numbered o.answer in
    let rs = map_wide (λ r. r.region) (λ r. r.region) o.list (λ r. refl) in
    let ms = map_wide (λ r. r.mark) (λ r. r.mark) o.list (λ r. refl) in
    let vs =
    map_wide (λ r. held r && is_valid (wide o.gate) (ticket_of r)) (λ r. has_ticket r && not_above_valid o.gate r.ticket) o.list
    (λ r. ap (λ (b : Bool). has_ticket r && b) (valid_wide o.gate o.list 0 r.ticket)) in
    ap₂ (λ (x y : List ℕ). entry a x y (map (λ r. has_ticket r && not_above_valid o.gate r.ticket) o.list)) rs ms
    ∙ ap (entry a (map (λ r. r.region) (wide_list o.list)) (map (λ r. r.mark) (wide_list o.list))) vs
    ∙ ap (λ (x : Said). stands_as x (wide o.gate) (wide_list o.list)) h.said_is
    ∙ ap₂ (stands_as (said_of w.answer)) h.gate_is h.list_is

-- The first entry is no 11, nor is one of the others.
pub eleven_not : (e : Entry) (es : List Entry) → no_eleven (e ∷ es) ≡ true → (e.number ≢ 11) × (no_eleven es ≡ true)
unfolding all
eleven_not e es h = (eqb-false _ _ (not-true _ (and_l _ _ h)), and_r (not (eqb e.number 11)) _ h)

-- Where no call is answered 11, the trace is the wide gate's.
pub trace_wide : (g : NumberedGate) (l : List NumberedRecord) (q : Queue) → RelatedNumbered g l q → (s : List Step) → no_eleven (numbered_trace g l s) ≡ true
    → numbered_trace g l s ≡ gate_trace_in endless (wide g) (wide_list l) s
unfolding numbered_trace gate_trace_in
trace_wide g l q r [] h = refl
trace_wide g l q r (step c p ∷ s) h =
    let o = call_numbered c g l p in
    let w = call_in endless c (wide g) (wide_list l) p in
    let x = eleven_not (numbered_entry o) (numbered_trace o.gate o.list s) h in
    let y = step_wide g l q r c p x.0 in
    ap₂ (λ (e : Entry) (t : List Entry). e ∷ t) (entry_wide o w y)
    (trace_wide o.gate o.list (queue_call c q p).queue (step_related g l q r c p x.0) s x.1
    ∙ ap₂ (λ (a : Gate) (m : List Record). gate_trace_in endless a m s) y.gate_is y.list_is)
