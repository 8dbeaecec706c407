-- One step: from R, the same call gives the same number, yes or no and place on both sides, and R again.
--
-- Main statements: `one_step_in`, in any block that fits; of a call on a sound gate, in its own block: `one_step`.
use Prim.Native.Nat.{suc, ℕ, ◌+◌, ◌-◌, ◌<◌, ◌≤◌}
use mathlib.Core.Path.{ap, ap₂, refl, subst, sym, ◌∙◌, ◌≡◌}
use mathlib.Core.Bool.{Bool, false, not, true, true≢false, ◌&&◌, ◌||◌}
use mathlib.Core.List.{List, [], map, ◌++◌, ◌∷◌}
use mathlib.Core.Logic.{◌≢◌}
use native.Mathlib.Omega.{arith}
use lib.ListN.{get_or-append, drop, drop_of_length-le, get_or, length, length-append, length-drop, length-map, length-set, length-take, set, take, take-append-drop}
use lib.Seq.{drop-append-add, drop-append-le, get_or_at, get_or-drop, get_or-set_other, get_or-set_same, get_or-take, map-set_same, set-set, map-set}
use lib.Dec.{eqb, ltb}
use borrow.Author.Tests.{eq-eqb, eqb-false, eqb-true, ne_eqb, not-false}
use Rattle.std.proofs.lemmas.List.{drop-map, map-append}
use Rattle.model.specs.Refusals.{Answered, refusal_number}
use Rattle.model.specs.declared.Call.{Call}
use Rattle.model.specs.declared.Call.TheVariants.{Leave, Look, Place, Stop, Take, Wake}
use Rattle.model.specs.declared.Gate.{Gate}
use Rattle.model.specs.declared.Record.{Record}
use Rattle.model.specs.declared.Ticket.{Ticket}
use Rattle.model.specs.Calls.{call, called_in, call_in, count_down, count_up, idle_record, left_in, looked, marked, Outcome, placed_in, rec, record_of, refuse, taken_in, waits_invalid, with_issue, with_valid, begun, called, head_slot, moved_up, returned, with_free}
use Rattle.model.specs.Shown.{shown}
use Rattle.model.specs.Lists.{count, one_if}
use Rattle.model.specs.Queue.{Queue, Reply, Said, accepted, gone, is_first, looked_at, mark_of, marked_as, place_is, place_of, position, queue_call, queue_called, queue_refuse, region_of, took, waits_behind, with_mark, with_row, without}
use Rattle.model.specs.Sound.{ahead_in, among, behind_in, held, idle, pending_in, sound, sound_in, ticket_of, waiting, slots_sound}
use Rattle.model.specs.Steps.{Block, block_of, col, distance_in, is_valid, moved, returns_in, val, year_block}
use Rattle.model.proofs.Blocks.{get_d_places, length_places, place}
use Rattle.model.proofs.Counting.{any_at, count_append, count_pos}
use Rattle.model.proofs.HandingBack.{leave_after_look, went_in}
use Rattle.model.proofs.IsSound.{IsSoundIn, sound_i}
use Rattle.model.proofs.Keeping.{look_sound, mark_sound, sound_free}
use Rattle.model.proofs.Leaving.{ValidMoved, leave_sound, pending_less, spare_more, valid_moved}
use Rattle.model.proofs.Logic.{and_false_r, by_bool, by_eq, by_lt, plugin_in, and_true}
use Rattle.model.proofs.RecordTests.{held_i, held_not}
use Rattle.model.proofs.Relation.{RelatedIn, Related, plugin_ticket, times}
use Rattle.model.proofs.Returns.{place_returns, returns_later, returns_valid}
use Rattle.model.proofs.RelationLaws.{first_valid_lem, mark_at, reg_at, tail_find, tail_times}
use Rattle.model.proofs.Rows.{each_without, length_without, map_same, position_at, times_cons_other, times_cons_same, times_split, times_without, without_append}
use Rattle.model.proofs.Taking.{IssueMoved, issue_moved, pending_more, spare_less, take_sound}
use Rattle.model.proofs.Validity.{valid_is}
use Rattle.model.specs.declared.Refusal.{Refusal}
use Rattle.model.specs.declared.Refusal.TheVariants.{IsStopped, WrongRegion}

-- An answer, as the queue gives it: of a ticket it knows nothing.
abbrev pub said_of : Answered → Said
said_of a = record { number = (shown a).number; yes = (shown a).yes; place = (shown a).place }

-- What the gate and the queue did with one call agree.
pub record AgreeIn (B : Block) (o : Outcome) (a : Reply) : Type 0 where
  pub related : RelatedIn B o.gate o.list a.queue
  pub said : said_of o.answer ≡ a.said

refuse_agrees : {B : Block} (g : Gate) (l : List Record) (q : Queue) (b b' : Bool) (n : Refusal) (o : Outcome) (a : Reply) → b ≡ b' → RelatedIn B g l q → (b ≡ false → AgreeIn B o a) → AgreeIn B (refuse b n g l o) (queue_refuse b' (refusal_number n) q a)
refuse_agrees g l q true true n o a e r f = record { related = r; said = refl }
refuse_agrees g l q true false n o a e r f = absurd (true≢false e)
refuse_agrees g l q false true n o a e r f = absurd (true≢false (sym e))
refuse_agrees g l q false false n o a e r f = f refl

-- The tickets say nothing of the free slots: with another free row a gate is related as it was.
pub related_free : {B : Block} {g : Gate} {l : List Record} {q : Queue} (fr : List ℕ) → RelatedIn B g l q → RelatedIn B (with_free g fr) l q
unfolding pending_in
related_free fr r = record {
  is_sound = sound_free fr r.is_sound;
  len = r.len;
  counts_len = r.counts_len;
  n_is = r.n_is;
  k_is = r.k_is;
  regions_are = r.regions_are;
  marks_are = r.marks_are;
  row_range = r.row_range;
  row_times = r.row_times;
  row_size = r.row_size;
  row_tail = r.row_tail;
}

-- a plugin's record is replaced: the other plugins' are as they were.
other_rec : (l : List Record) (p x : ℕ) (new : Record) → 1 ≤ p → 1 ≤ x → x ≢ p → get_or (set l (p - 1) new) (x - 1) idle_record ≡ get_or l (x - 1) idle_record
other_rec l p x new a b n = get_or-set_other l (p - 1) (x - 1) new idle_record (λ e. n (omega arith))

same_rec : (l : List Record) (p : ℕ) (new : Record) → p - 1 < length l → get_or (set l (p - 1) new) (p - 1) idle_record ≡ new
same_rec l p new h = get_or-set_same l (p - 1) new idle_record h

-- a record that keeps its ticket and whether it holds one.
module _ {B : Block} (g : Gate) (l : List Record) (q : Queue) (r : RelatedIn B g l q) (p : ℕ) (a : 1 ≤ p) (b : p ≤ g.n) (reg mk sl : ℕ) where
  abbrev old : Record
  old = get_or l (p - 1) idle_record

  abbrev new : Record
  new = rec reg mk old.value.0 old.colour.0 sl

  abbrev l' : List Record
  l' = set l (p - 1) new

  in_list : p - 1 < length l
  in_list = omega (arith, r.len)

  tick_kept : (x : ℕ) → plugin_ticket l' x ≡ plugin_ticket l x
  tick_kept x =
      by_eq (x - 1) (p - 1)
      (λ e. rw e (ap ticket_of (same_rec l p new in_list)))
      (λ e. ap ticket_of (get_or-set_other l (p - 1) (x - 1) new idle_record e))

  held_kept : held new ≡ held old → (x : ℕ) → held (get_or l' (x - 1) idle_record) ≡ held (get_or l (x - 1) idle_record)
  held_kept k x =
      by_eq (x - 1) (p - 1)
      (λ e. rw e (ap held (same_rec l p new in_list) ∙ k))
      (λ e. ap held (get_or-set_other l (p - 1) (x - 1) new idle_record e))

  pub kept : IsSoundIn B g l' → held new ≡ held old → (q' : Queue) → q'.n ≡ q.n → q'.k ≡ q.k → q'.row ≡ q.row
      → q'.regions ≡ map (λ x. x.region) l' → q'.marks ≡ map (λ x. x.mark) l' → RelatedIn B g l' q'
  kept s k q' en ek er eg em = record {
    is_sound = s;
    len = length-set l (p - 1) new ∙ r.len;
    counts_len = r.counts_len;
    n_is = en ∙ r.n_is;
    k_is = ek ∙ r.k_is;
    regions_are = eg;
    marks_are = em;
    row_range = rw er r.row_range;
    row_times = λ x c d. rw (er, held_kept k x) (r.row_times x c d);
    row_size = rw er r.row_size;
    row_tail = rw er (map_same (plugin_ticket l') (plugin_ticket l) (drop g.k q.row) 0 (λ i h. tick_kept (get_or (drop g.k q.row) i 0)) ∙ r.row_tail);
  }

-- Stop and wake.
mark_agrees : {B : Block} (g : Gate) (l : List Record) (q : Queue) (r : RelatedIn B g l q) (p : ℕ) (a : 1 ≤ p) (b : p ≤ g.n) (m : ℕ) → m ≤ 1 → AgreeIn B (marked m g l p) (marked_as m q p)
unfolding marked
mark_agrees g l q r p a b m h = record {
  related =
      kept g l q r p a b (get_or l (p - 1) idle_record).region m (get_or l (p - 1) idle_record).slot.0 (mark_sound g l r.is_sound (p - 1) (omega (arith, r.len)) m h) refl (with_mark q p m) refl refl refl
      (r.regions_are ∙ sym (map-set_same (λ (x : Record). x.region) l (p - 1) _ idle_record refl))
      (ap (λ (z : List ℕ). set z (p - 1) m) r.marks_are ∙ sym (map-set (λ (x : Record). x.mark) l (p - 1) _));
  said = refl;
}

-- A look that says yes, whatever slot it gives.
look_in : {B : Block} (g : Gate) (l : List Record) (q : Queue) (r : RelatedIn B g l q) (p : ℕ) (a : 1 ≤ p) (b : p ≤ g.n) → (get_or l (p - 1) idle_record).region ≡ 1
    → is_valid g (plugin_ticket l p) ≡ true → (sl : ℕ) → RelatedIn B g (set l (p - 1) (went_in (record_of l p) sl)) (with_row q q.row p 2)
look_in g l q r p a b w e sl =
    kept g l q r p a b 2 (get_or l (p - 1) idle_record).mark sl (look_sound g l r.is_sound (p - 1) (omega (arith, r.len)) w e sl)
    (sym (held_i (get_or l (p - 1) idle_record) (λ z. omega arith))) (with_row q q.row p 2) refl refl refl
    (ap (λ (z : List ℕ). set z (p - 1) 2) r.regions_are ∙ sym (map-set (λ (x : Record). x.region) l (p - 1) _))
    (r.marks_are ∙ sym (map-set_same (λ (x : Record). x.mark) l (p - 1) _ idle_record refl))

-- look.
look_agrees : {B : Block} (g : Gate) (l : List Record) (q : Queue) (r : RelatedIn B g l q) (p : ℕ) (a : 1 ≤ p) (b : p ≤ g.n) → (get_or l (p - 1) idle_record).region ≡ 1
    → AgreeIn B (looked g l p) (looked_at q p)
unfolding looked
look_agrees g l q r p a b w =
    let hd : held (get_or l (p - 1) idle_record) ≡ true = held_i (get_or l (p - 1) idle_record) (λ z. omega arith) in
    let f : is_first q p ≡ is_valid g (plugin_ticket l p) = first_valid_lem g l q r p a b hd in
    by_bool (is_valid g (plugin_ticket l p))
    (λ e. rw (f, e) (record { related = related_free (moved_up g.free) (look_in g l q r p a b w e (head_slot g.free)); said = refl }))
    (λ e. rw (f, e) (record { related = r; said = refl }))

-- place: the ticket's returns are the position less k.
pub place_is_lem : {B : Block} (g : Gate) (l : List Record) (q : Queue) (r : RelatedIn B g l q) (p : ℕ) (a : 1 ≤ p) (b : p ≤ g.n) → held (get_or l (p - 1) idle_record) ≡ true
    → returns_in B g (plugin_ticket l p) ≡ position p q.row - q.k
unfolding pending_in
place_is_lem {B} g l q r p a b hd =
    let f : is_first q p ≡ is_valid g (plugin_ticket l p) = first_valid_lem g l q r p a b hd in
    let once : times p q.row ≤ 1 = omega (arith, r.row_times p a b, ap one_if hd) in
    let sd : IsSoundIn B g l = r.is_sound in
    by_bool (is_valid g (plugin_ticket l p))
    (λ e.
    let w = any_at (λ x. eqb x p) (take q.k q.row) 0 (f ∙ e) in
    let h : w.0 < q.k = omega (arith, w.1, length-take q.k q.row) in
    let h' : w.0 < length q.row = omega (arith, w.1, length-take q.k q.row) in
    let u : position p q.row ≡ suc w.0 = position_at p q.row w.0 h' (sym (get_or-take q.k q.row w.0 0 h) ∙ eqb-true _ _ w.2) once in
    omega (arith, returns_valid B g (plugin_ticket l p) e))
    (λ e.
    let v : among (plugin_ticket l p) (pending_in B g) ≡ true = not-false _ (sym (valid_is g l sd (p - 1) (omega (arith, r.len)) hd) ∙ e) in
    let w = tail_find g l q r p a b hd v in
    let j = w.0 in
    let hj : j < behind_in B g =
    omega (arith, w.1, ap length r.row_tail, length-map (drop g.k q.row) (plugin_ticket l), length_places B (col g.issue) g.valid (behind_in B g)) in
    let t : plugin_ticket l p ≡ place B (col g.issue) g.valid (suc j) =
    w.3 ∙ get_d_places B (col g.issue) g.valid (behind_in B g) j (plugin_ticket l 0) hj in
    let d : distance_in B g (plugin_ticket l p) ≡ suc j = ap (distance_in B g) t ∙ place_returns g l sd j hj in
    let k : g.k + j < length q.row = omega (arith, w.1, length-drop g.k q.row) in
    let u : position p q.row ≡ suc (g.k + j) = position_at p q.row (g.k + j) k (sym (get_or-drop g.k q.row j 0) ∙ w.2) once in
    omega (arith, returns_later B g (plugin_ticket l p) e, r.k_is))

place_agrees : {B : Block} (g : Gate) (l : List Record) (q : Queue) (r : RelatedIn B g l q) (p : ℕ) (a : 1 ≤ p) (b : p ≤ g.n) → (get_or l (p - 1) idle_record).region ≡ 1
    → AgreeIn B (placed_in B g l p) (place_of q p)
unfolding placed_in
place_agrees {B} g l q r p a b w =
    let e : returns_in B g (plugin_ticket l p) ≡ (place_of q p).said.place = omega (arith, place_is_lem g l q r p a b (held_i (get_or l (p - 1) idle_record) (λ z. omega arith))) in
    record { related = r; said = ap place_is e }

-- take.
module _ {B : Block} (g : Gate) (l : List Record) (q : Queue) (r : RelatedIn B g l q) (p : ℕ) (a : 1 ≤ p) (b : p ≤ g.n) (idle : (get_or l (p - 1) idle_record).region ≡ 0) where
  abbrev t : Ticket
  t = moved B g g.issue g.valid

  abbrev tg : Gate
  tg = with_issue g t

  abbrev tnew : Record
  tnew = rec 1 (get_or l (p - 1) idle_record).mark (val t) (col t) (get_or l (p - 1) idle_record).slot.0

  abbrev tl : List Record
  tl = set l (p - 1) tnew

  in_l : p - 1 < length l
  in_l = omega (arith, r.len)

  not_in_row : times p q.row ≡ 0
  not_in_row = omega (arith, r.row_times p a b, ap one_if (held_not (get_or l (p - 1) idle_record) idle))

  take_times : (x : ℕ) → 1 ≤ x → x ≤ g.n → times x (q.row ++ (p ∷ [])) ≡ one_if (held (get_or tl (x - 1) idle_record))
  unfolding count
  take_times x c d =
      by_eq p x
      (λ e. rw (← e) (omega (
        arith,
        count_append (λ y. eqb y p) q.row (p ∷ []),
        times_cons_same p p [] refl,
        not_in_row,
        ap (λ (z : Record). one_if (held z)) (same_rec l p tnew in_l),
      )))
      (λ e. omega (
        arith,
        count_append (λ y. eqb y x) q.row (p ∷ []),
        times_cons_other x p [] e,
        r.row_times x c d,
        ap (λ (z : Record). one_if (held z)) (other_rec l p x tnew a c (λ y. e (sym y))),
      ))

  take_range : (j : ℕ) → j < length (q.row ++ (p ∷ [])) → (1 ≤ get_or (q.row ++ (p ∷ [])) j 0) × (get_or (q.row ++ (p ∷ [])) j 0 ≤ g.n)
  take_range j h =
      by_lt j (length q.row)
      (λ k. rw (get_or-append q.row (p ∷ []) 0 j k) (r.row_range j k))
      (λ k. rw (get_or_at q.row p [] 0 j (omega (arith, length-append q.row (p ∷ [])))) (a, b))

  -- The row's tickets are as they were.
  take_ticks : map (plugin_ticket tl) (drop g.k q.row) ≡ pending_in B g
  take_ticks =
      map_same (plugin_ticket tl) (plugin_ticket l) (drop g.k q.row) 0 (λ j h.
      let k : g.k + j < length q.row = omega (arith, length-drop g.k q.row) in
      let x = get_or q.row (g.k + j) 0 in
      rw (get_or-drop g.k q.row j 0)
      (ap ticket_of (other_rec l p x tnew a (r.row_range (g.k + j) k).0 (λ e. omega (arith, not_in_row, count_pos (λ y. eqb y p) q.row (g.k + j) 0 k (eq-eqb _ _ e))))))
      ∙ r.row_tail

  take_tail : IssueMoved B g tg t → map (plugin_ticket tl) (drop g.k (q.row ++ (p ∷ []))) ≡ pending_in B tg
  take_tail (spare_less x y z u v w) =
      ap (map (plugin_ticket tl)) (drop_of_length-le (q.row ++ (p ∷ [])) {i = g.k} (omega (arith, length-append q.row (p ∷ []), r.row_size))) ∙ sym v
  take_tail (pending_more x y z u v w) =
      ap (map (plugin_ticket tl)) (drop-append-le g.k q.row (p ∷ []) (omega (arith, r.row_size)))
      ∙ map-append (plugin_ticket tl) (drop g.k q.row) (p ∷ [])
      ∙ ap₂ (λ (m n : List Ticket). m ++ n) take_ticks (ap (λ (m : Record). ticket_of m ∷ []) (same_rec l p tnew in_l))
      ∙ sym w

  take_size : IssueMoved B g tg t → length (q.row ++ (p ∷ [])) + ahead_in B tg ≡ g.k + behind_in B tg
  take_size (spare_less x y z u v w) = omega (arith, length-append q.row (p ∷ []), r.row_size)
  take_size (pending_more x y z u v w) = omega (arith, length-append q.row (p ∷ []), r.row_size)

  pub take_agrees : AgreeIn B (taken_in B g l p) (took q p)
  unfolding taken_in
  take_agrees =
      let moves : IssueMoved B g tg t = issue_moved g l r.is_sound r.len (p - 1) in_l idle in
      record {
        related = record {
          is_sound = take_sound g l r.is_sound r.len (p - 1) in_l idle;
          len = length-set l (p - 1) tnew ∙ r.len;
          counts_len = r.counts_len;
          n_is = r.n_is;
          k_is = r.k_is;
          regions_are = ap (λ (z : List ℕ). set z (p - 1) 1) r.regions_are ∙ sym (map-set (λ (x : Record). x.region) l (p - 1) tnew);
          marks_are = r.marks_are ∙ sym (map-set_same (λ (x : Record). x.mark) l (p - 1) tnew idle_record refl);
          row_range = take_range;
          row_times = take_times;
          row_size = take_size moves;
          row_tail = take_tail moves;
        };
        said = refl;
      }

-- leave.
module _ {B : Block} (g : Gate) (l : List Record) (q : Queue) (r : RelatedIn B g l q) (p : ℕ) (a : 1 ≤ p) (b : p ≤ g.n) (ins : (get_or l (p - 1) idle_record).region ≡ 2) where
  abbrev v : Ticket
  v = moved B g g.valid g.issue

  abbrev vg : Gate
  vg = with_valid g v (count_down (count_up g.counts (col v)) (get_or l (p - 1) idle_record).colour.0)

  abbrev vnew : Record
  vnew = rec 0 (get_or l (p - 1) idle_record).mark 0 0 0

  abbrev vl : List Record
  vl = set l (p - 1) vnew

  at_l : p - 1 < length l
  at_l = omega (arith, r.len)

  old_hd : held (get_or l (p - 1) idle_record) ≡ true
  old_hd = held_i (get_or l (p - 1) idle_record) (λ z. omega arith)

  not_pending : among (plugin_ticket l p) (pending_in B g) ≡ false
  not_pending = r.is_sound.no_inside (p - 1) at_l (eq-eqb _ _ ins)

  in_row : times p q.row ≡ 1
  in_row = r.row_times p a b ∙ ap one_if old_hd

  in_tail : times p (drop g.k q.row) ≡ 0
  in_tail = tail_times g l q r p a b old_hd ∙ ap one_if not_pending

  in_front : 0 < times p (take g.k q.row)
  in_front = omega (arith, in_row, in_tail, times_split p g.k q.row)

  row_pos : 0 < times p q.row
  row_pos = omega (arith, in_row)

  leave_times : (x : ℕ) → 1 ≤ x → x ≤ g.n → times x (without p q.row) ≡ one_if (held (get_or vl (x - 1) idle_record))
  leave_times x c d =
      by_eq p x
      (λ e. rw (← e) (omega (
        arith,
        times_without p p q.row row_pos,
        ap one_if (eq-eqb p p refl),
        in_row,
        ap (λ (z : Record). one_if (held z)) (same_rec l p vnew at_l),
      )))
      (λ e. omega (
        arith,
        times_without p x q.row row_pos,
        ap one_if (ne_eqb p x e),
        r.row_times x c d,
        ap (λ (z : Record). one_if (held z)) (other_rec l p x vnew a c (λ y. e (sym y))),
      ))

  leave_range : (j : ℕ) → j < length (without p q.row) → (1 ≤ get_or (without p q.row) j 0) × (get_or (without p q.row) j 0 ≤ g.n)
  leave_range = each_without (λ (x : ℕ). (1 ≤ x) × (x ≤ g.n)) p q.row r.row_range

  leave_size : ValidMoved B g vg v → length (without p q.row) + ahead_in B vg ≡ g.k + behind_in B vg
  leave_size (pending_less x y z u w e) = omega (arith, length_without p q.row row_pos, r.row_size)
  leave_size (spare_more x y z u w e) = omega (arith, length_without p q.row row_pos, r.row_size)

  -- The tail's tickets are as they were.
  leave_ticks : map (plugin_ticket vl) (drop g.k q.row) ≡ pending_in B g
  leave_ticks =
      map_same (plugin_ticket vl) (plugin_ticket l) (drop g.k q.row) 0 (λ j h.
      let k : g.k + j < length q.row = omega (arith, length-drop g.k q.row) in
      let e = get_or-drop g.k q.row j 0 in
      ap ticket_of (other_rec l p (get_or (drop g.k q.row) j 0) vnew a (rw e (r.row_range (g.k + j) k).0)
      (λ z. omega (arith, in_tail, count_pos (λ y. eqb y p) (drop g.k q.row) j 0 h (eq-eqb _ _ z)))))
      ∙ r.row_tail

  leave_tail : ValidMoved B g vg v → map (plugin_ticket vl) (drop g.k (without p q.row)) ≡ pending_in B vg
  leave_tail (pending_less x y z u w e) =
      let front = take g.k q.row in
      let n : suc (length (without p front)) ≡ g.k = length_without p front in_front ∙ omega (arith, length-take g.k q.row, r.row_size) in
      let k1 : g.k ≡ length (without p front) + 1 = omega arith in
      let c : without p q.row ≡ without p front ++ drop g.k q.row =
      ap (without p) (sym (take-append-drop g.k q.row)) ∙ without_append p front (drop g.k q.row) in_front in
      let d : drop g.k (without p q.row) ≡ drop 1 (drop g.k q.row) =
      ap (drop g.k) c
      ∙ ap (λ (m : ℕ). drop m (without p front ++ drop g.k q.row)) k1
      ∙ drop-append-add (without p front) (drop g.k q.row) 1 in
      ap (map (plugin_ticket vl)) d ∙ sym (drop-map (plugin_ticket vl) 1 (drop g.k q.row)) ∙ ap (drop 1) (leave_ticks ∙ e)
  leave_tail (spare_more x y z u w e) =
      ap (map (plugin_ticket vl)) (drop_of_length-le (without p q.row) {i = g.k} (omega (arith, length_without p q.row row_pos, r.row_size))) ∙ sym w

  pub leave_agrees : AgreeIn B (left_in B g l p) (gone q p)
  unfolding left_in
  leave_agrees =
      let moves : ValidMoved B g vg v = valid_moved g l r.is_sound (p - 1) at_l ins in
      record {
        related = related_free (returned g.free (get_or l (p - 1) idle_record).slot.0) (record {
          is_sound = leave_sound g l r.is_sound (p - 1) at_l ins r.counts_len;
          len = length-set l (p - 1) vnew ∙ r.len;
          counts_len = length-set (count_up g.counts (col v)) _ _ ∙ length-set g.counts (col v) _ ∙ r.counts_len;
          n_is = r.n_is;
          k_is = r.k_is;
          regions_are = ap (λ (z : List ℕ). set z (p - 1) 0) r.regions_are ∙ sym (map-set (λ (x : Record). x.region) l (p - 1) vnew);
          marks_are = r.marks_are ∙ sym (map-set_same (λ (x : Record). x.mark) l (p - 1) vnew idle_record refl);
          row_range = leave_range;
          row_times = leave_times;
          row_size = leave_size moves;
          row_tail = leave_tail moves;
        });
        said = refl;
      }

-- A valid turn handed back (A.2): a look that says yes and then a leave from inside, on both sides.
queue_hand_back : (q : Queue) (p : ℕ) → gone (with_row q q.row p 2) p ≡ gone q p
queue_hand_back q p =
    ap (λ (z : List ℕ). record { queue = record { n = q.n; k = q.k; row = without p q.row; regions = z; marks = q.marks }; said = accepted })
    (set-set q.regions (p - 1) 2 0)

hand_back_agrees : {B : Block} (g : Gate) (l : List Record) (q : Queue) (r : RelatedIn B g l q) (p : ℕ) (a : 1 ≤ p) (b : p ≤ g.n) → (get_or l (p - 1) idle_record).region ≡ 1
    → is_valid g (plugin_ticket l p) ≡ true → AgreeIn B (left_in B g l p) (gone q p)
hand_back_agrees {B} g l q r p a b w e =
    let h : p - 1 < length l = omega (arith, r.len) in
    let y = went_in (record_of l p) (record_of l p).slot.0 in
    let agrees : AgreeIn B (left_in B g (set l (p - 1) y) p) (gone (with_row q q.row p 2) p) =
    leave_agrees g (set l (p - 1) y) (with_row q q.row p 2) (look_in g l q r p a b w e (record_of l p).slot.0) p a b (ap (λ (x : Record). x.region) (same_rec l p y h)) in
    subst (λ (x : Reply). AgreeIn B (left_in B g l p) x) (queue_hand_back q p)
    (subst (λ (o : Outcome). AgreeIn B o (gone (with_row q q.row p 2) p)) (leave_after_look B g l p h) agrees)

-- An accepted leave, from inside or from waiting.
leaves_agree : {B : Block} (g : Gate) (l : List Record) (q : Queue) (r : RelatedIn B g l q) (p : ℕ) (a : 1 ≤ p) (b : p ≤ g.n) → idle (record_of l p) ≡ false
    → waits_invalid g (record_of l p) ≡ false → AgreeIn B (left_in B g l p) (gone q p)
leaves_agree g l q r p a b i w =
    by_eq (record_of l p).region 1
    (λ e. hand_back_agrees g l q r p a b e (not-false (is_valid g (plugin_ticket l p)) (and_false_r (waiting (record_of l p)) (not (is_valid g (plugin_ticket l p))) (eq-eqb _ _ e) w)))
    (λ e. leave_agrees g l q r p a b (omega (arith, eqb-false (record_of l p).region 0 i, (r.is_sound.records (p - 1) (omega (arith, r.len))).region_ok)))

-- Who waits with a ticket that is not valid is who waits behind the first k.
not_yet_same : {B : Block} (g : Gate) (l : List Record) (q : Queue) (r : RelatedIn B g l q) (p : ℕ) (a : 1 ≤ p) (b : p ≤ g.n)
    → waits_invalid g (record_of l p) ≡ waits_behind q p
not_yet_same g l q r p a b =
    let m = reg_at g l q r p in
    by_eq (record_of l p).region 1
    (λ e. ap₂ (λ (x y : Bool). x && not y) (eq-eqb _ _ e ∙ sym (eq-eqb _ _ (m ∙ e))) (sym (first_valid_lem g l q r p a b (held_i (record_of l p) (λ z. omega arith)))))
    (λ e. ap (λ (x : Bool). x && not (is_valid g (plugin_ticket l p))) (ne_eqb _ _ e) ∙ sym (ap (λ (x : Bool). x && not (is_first q p)) (ne_eqb _ _ (λ z. e (sym m ∙ z)))))

-- Every call.
not_cong : (x y n : ℕ) → x ≡ y → not (eqb x n) ≡ not (eqb y n)
not_cong x y n e = ap (λ (z : ℕ). not (eqb z n)) e

module _ {B : Block} (g : Gate) (l : List Record) (q : Queue) (r : RelatedIn B g l q) (p : ℕ) (a : 1 ≤ p) (b : p ≤ g.n) where
  abbrev regn : ℕ
  regn = (get_or l (p - 1) idle_record).region

  abbrev mrk : ℕ
  mrk = (get_or l (p - 1) idle_record).mark

  mark_same : (n : ℕ) → eqb mrk n ≡ eqb (mark_of q p) n
  mark_same n = ap (λ (z : ℕ). eqb z n) (sym (mark_at g l q r p))

  reg_same : (n : ℕ) → not (eqb regn n) ≡ not (eqb (region_of q p) n)
  reg_same n = not_cong regn (region_of q p) n (sym (reg_at g l q r p))

  reg_is : (n : ℕ) → not (eqb regn n) ≡ false → regn ≡ n
  reg_is n e = eqb-true _ _ (not-false (eqb regn n) e)

  pub called_agrees : (c : Call) → AgreeIn B (called_in B c g l p) (queue_called c q p)
  unfolding called_in queue_called
  called_agrees Take =
      refuse_agrees g l q _ _ _ _ _ (mark_same 1) r (λ e. refuse_agrees g l q _ _ _ _ _ (reg_same 0) r (λ f. take_agrees g l q r p a b (reg_is 0 f)))
  called_agrees Look =
      refuse_agrees g l q _ _ _ _ _ (mark_same 1) r (λ e. refuse_agrees g l q _ _ _ _ _ (reg_same 1) r (λ f. look_agrees g l q r p a b (reg_is 1 f)))
  called_agrees Leave =
      refuse_agrees g l q _ _ _ _ _ (mark_same 1) r (λ e.
      refuse_agrees g l q _ _ _ _ _ (ap (λ (z : ℕ). eqb z 0) (sym (reg_at g l q r p))) r (λ f.
      refuse_agrees g l q _ _ _ _ _ (not_yet_same g l q r p a b) r (λ w. leaves_agree g l q r p a b f w)))
  called_agrees Place =
      refuse_agrees g l q _ _ _ _ _ (mark_same 1) r (λ e. refuse_agrees g l q _ _ _ _ _ (reg_same 1) r (λ f. place_agrees g l q r p a b (reg_is 1 f)))
  called_agrees Stop = refuse_agrees g l q _ _ _ _ _ (mark_same 1) r (λ e. mark_agrees g l q r p a b 1 (omega arith))
  called_agrees Wake = refuse_agrees g l q _ _ _ _ _ (mark_same 0) r (λ e. mark_agrees g l q r p a b 0 (omega arith))

pub one_step_in : {B : Block} (g : Gate) (l : List Record) (q : Queue) (r : RelatedIn B g l q) (c : Call) (p : ℕ) → AgreeIn B (call_in B c g l p) (queue_call c q p)
unfolding call_in queue_call
one_step_in g l q r c p =
    rw (eq-eqb (length l) g.n r.len, sound_i g l r.is_sound)
    (refuse_agrees g l q (eqb p 0 || ltb g.n p) (eqb p 0 || ltb q.n p) _ _ _ (ap (λ (z : ℕ). eqb p 0 || ltb z p) (sym r.n_is)) r
    (λ e. let h = plugin_in g.n p e in called_agrees g l q r p h.0 h.1 c))

-- No call changes N, k, the year or the list's length.
pub record SizesKept (g : Gate) (l : List Record) (o : Outcome) : Type 0 where
  pub n_kept : o.gate.n ≡ g.n
  pub k_kept : o.gate.k ≡ g.k
  pub year_kept : o.gate.year ≡ g.year
  pub list_kept : length o.list ≡ length l

refuse_sizes : (b : Bool) (n : Refusal) (g : Gate) (l : List Record) (o : Outcome) → SizesKept g l o → SizesKept g l (refuse b n g l o)
refuse_sizes true n g l o h = record { n_kept = refl; k_kept = refl; year_kept = refl; list_kept = refl }
refuse_sizes false n g l o h = h

module _ (b : Block) (g : Gate) (l : List Record) (p : ℕ) where
  take_sizes : SizesKept g l (taken_in b g l p)
  unfolding taken_in
  take_sizes = record { n_kept = refl; k_kept = refl; year_kept = refl; list_kept = length-set l (p - 1) _ }

  leave_sizes : SizesKept g l (left_in b g l p)
  unfolding left_in
  leave_sizes = record { n_kept = refl; k_kept = refl; year_kept = refl; list_kept = length-set l (p - 1) _ }

  look_sizes : SizesKept g l (looked g l p)
  unfolding looked
  look_sizes =
      by_bool (is_valid g (ticket_of (record_of l p))) (λ e. rw e (record { n_kept = refl; k_kept = refl; year_kept = refl; list_kept = length-set l (p - 1) _ }))
      (λ e. rw e (record { n_kept = refl; k_kept = refl; year_kept = refl; list_kept = refl }))

  place_sizes : SizesKept g l (placed_in b g l p)
  unfolding placed_in
  place_sizes = record { n_kept = refl; k_kept = refl; year_kept = refl; list_kept = refl }

  mark_sizes : (m : ℕ) → SizesKept g l (marked m g l p)
  unfolding marked
  mark_sizes m = record { n_kept = refl; k_kept = refl; year_kept = refl; list_kept = length-set l (p - 1) _ }

  -- Refusals 5 and 6.
  refused_sizes : (m : ℕ) (o : Outcome) → SizesKept g l o
      → SizesKept g l (refuse (eqb (record_of l p).mark 1) IsStopped g l (refuse (not (eqb (record_of l p).region m)) WrongRegion g l o))
  refused_sizes m o h = refuse_sizes (eqb (record_of l p).mark 1) _ g l _ (refuse_sizes (not (eqb (record_of l p).region m)) _ g l o h)

  called_sizes : (c : Call) → SizesKept g l (called_in b c g l p)
  unfolding called_in
  called_sizes Take = refused_sizes 0 (taken_in b g l p) take_sizes
  called_sizes Look = refused_sizes 1 (looked g l p) look_sizes
  called_sizes Leave =
      refuse_sizes (eqb (record_of l p).mark 1) _ g l _
      (refuse_sizes (idle (record_of l p)) _ g l _ (refuse_sizes (waits_invalid g (record_of l p)) _ g l (left_in b g l p) leave_sizes))
  called_sizes Place = refused_sizes 1 (placed_in b g l p) place_sizes
  called_sizes Stop = refuse_sizes (eqb (record_of l p).mark 1) _ g l (marked 1 g l p) (mark_sizes 1)
  called_sizes Wake = refuse_sizes (eqb (record_of l p).mark 0) _ g l (marked 0 g l p) (mark_sizes 0)

  begun_sizes : (s : Bool) (c : Call) → SizesKept g l (begun s g l p (called_in b c g l p))
  begun_sizes s c =
      refuse_sizes (not (eqb (length l) g.n)) _ g l _ (refuse_sizes (not s) _ g l _ (refuse_sizes (eqb p 0 || ltb g.n p) _ g l _ (called_sizes c)))

  pub call_sizes : (c : Call) → SizesKept g l (call_in b c g l p)
  unfolding call_in
  call_sizes = begun_sizes (sound_in b g l)

pub sizes_kept : (g : Gate) (l : List Record) (p : ℕ) (c : Call) → SizesKept g l (call c g l p)
unfolding call
sizes_kept g l p = begun_sizes (block_of g) g l p (sound g l)

-- Where the slots are sound, a call asks of a gate what `call_in` asks.
pub call_is : (c : Call) (g : Gate) (l : List Record) (p : ℕ) → slots_sound g l ≡ true → call c g l p ≡ call_in (block_of g) c g l p
unfolding call call_in
call_is c g l p e =
    ap (λ (b : Bool). begun b g l p (called c g l p)) (ap (λ (b : Bool). sound_in (block_of g) g l && b) e ∙ and_true (sound_in (block_of g) g l))

-- In the gate's own block, which a call leaves as it was.
abbrev pub Agree : Outcome → Reply → Type 0
Agree o a = AgreeIn (block_of o.gate) o a

pub own_block : (g : Gate) {l : List Record} (o : Outcome) → SizesKept g l o → block_of g ≡ block_of o.gate
own_block g o h =
    ap (λ (y : ℕ). year_block y g.n g.k) (sym h.year_kept) ∙ ap₂ (year_block o.gate.year) (sym h.n_kept) (sym h.k_kept)

pub one_step : (g : Gate) (l : List Record) (q : Queue) (r : Related g l q) → slots_sound g l ≡ true → (c : Call) (p : ℕ)
    → Agree (call c g l p) (queue_call c q p)
one_step g l q r h c p =
    let o = call_in (block_of g) c g l p in
    let a : Agree o (queue_call c q p) =
    subst (λ (b : Block). AgreeIn b o (queue_call c q p)) (own_block g o (call_sizes (block_of g) g l p c)) (one_step_in g l q r c p) in
    subst (λ (x : Outcome). Agree x (queue_call c q p)) (sym (call_is c g l p h)) a
