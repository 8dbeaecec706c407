-- A sound numbered gate is a sound coloured gate in the endless block, and the other way.
--
-- Main statement: `numbered_sound_is` (`sound_numbered g l` is `sound_in endless` of the wide gate and list, where both counters are in range).
use Prim.Native.Nat.{ℕ, zero, suc, ◌+◌, ◌-◌, ◌≤◌, ◌<◌}
use mathlib.Core.Path.{◌≡◌, refl, sym, ap, subst, ◌∙◌}
use mathlib.Core.Bool.{Bool, true, false, not, ◌&&◌}
use mathlib.Core.List.{List, [], ◌∷◌, map}
use mathlib.Core.Logic.{◌≢◌, ⊎_elim}
use native.Mathlib.Omega.{arith}
use lib.ListN.{get_or-map, get_or, get_or-replicate, length, length-map}
use lib.Dec.{eqb, leb}
use borrow.Author.Tests.{le-leb, lt-leb, eq-eqb, ne_eqb}
use Rattle.model.specs.declared.Ticket.{Ticket}
use Rattle.model.specs.declared.Record.{Record}
use Rattle.numbered.specs.declared.NumberedGate.{NumberedGate}
use Rattle.numbered.specs.declared.NumberedRecord.{NumberedRecord}
use Rattle.model.specs.Lists.{count, one_if}
use Rattle.model.specs.Steps.{Fits, col, ticket, val}
use Rattle.model.specs.Sound.{ahead_in, among, behind_in, held, holds, holds_other, inside, pending_in, sound_in, spare_in, ticket_of, year_in_range}
use Rattle.model.specs.Calls.{idle_record}
use Rattle.model.proofs.Logic.{and_true, and_false, bool_ext, by_bool, by_eq, by_lt, not_i}
use Rattle.model.proofs.Counting.{count_find, count_none, count_same}
use Rattle.model.proofs.Blocks.{among_at, among_i, get_d_places, length_places, place_col, place_within}
use Rattle.model.proofs.Moves.{ahead_same, behind_ahead}
use Rattle.model.proofs.IsSound.{Each, IsSoundIn, RecordInRange, sizes_use, sound_i, sound_in_use}
use Rattle.model.proofs.RecordTests.{holds_i, holds_is, holds_other_in, inside_held, inside_region, waits, waits_holds, waits_region}
use Rattle.model.proofs.Rows.{count_two}
use Rattle.model.proofs.SoundLaws.{count_true}
use Rattle.numbered.specs.Sound.{ahead_by, awaits_number, behind_by, has_ticket, holds_number, not_above_valid, sound_numbered}
use Rattle.numbered.specs.Calls.{idle_numbered}
use Rattle.numbered.proofs.Endless.{endless, endless_first, endless_size, wide, wide_list, wide_record}
use Rattle.numbered.proofs.IsSoundNumbered.{IsSoundNumbered, numbered_i, numbered_use}

-- Counting over a map.
pub count_map : {A C : Type 0} (f : A → C) (p : C → Bool) (l : List A) → count p (map f l) ≡ count (λ x. p (f x)) l
unfolding count
count_map f p [] = refl
count_map f p (x ∷ l) = ap (λ (m : ℕ). one_if (p (f x)) + m) (count_map f p l)

-- The tests of a record, read wide.
pub holds_wide : (x : ℕ) (r : NumberedRecord) → holds (ticket x 0) (wide_record r) ≡ holds_number x r
holds_wide x r = ap (λ (b : Bool). has_ticket r && b) (and_true (eqb x r.ticket))

pub waits_wide : (x : ℕ) (r : NumberedRecord) → waits (ticket x 0) (wide_record r) ≡ awaits_number x r
waits_wide x r = ap (λ (b : Bool). eqb r.region 1 && b) (and_true (eqb x r.ticket))

module _ (l : List NumberedRecord) where
  pub wide_at : (i : ℕ) → get_or (wide_list l) i idle_record ≡ wide_record (get_or l i idle_numbered)
  wide_at i = get_or-map wide_record l i idle_numbered

  pub wide_length : length (wide_list l) ≡ length l
  wide_length = length-map l wide_record

  each_wide : (P : Record → Type 0) → ((i : ℕ) → i < length l → P (wide_record (get_or l i idle_numbered))) → Each P (wide_list l)
  each_wide P f i h = subst P (sym (wide_at i)) (f i (omega (arith, wide_length)))

  each_narrow : (P : Record → Type 0) → Each P (wide_list l) → (i : ℕ) → i < length l → P (wide_record (get_or l i idle_numbered))
  each_narrow P f i h = subst P (wide_at i) (f i (omega (arith, wide_length)))

  count_holds : (x : ℕ) → count (holds (ticket x 0)) (wide_list l) ≡ count (holds_number x) l
  count_holds x = count_map wide_record (holds (ticket x 0)) l ∙ count_same _ (holds_number x) l idle_numbered (λ i h. holds_wide x (get_or l i idle_numbered))

  count_waits : (x : ℕ) → count (waits (ticket x 0)) (wide_list l) ≡ count (awaits_number x) l
  count_waits x = count_map wide_record (waits (ticket x 0)) l ∙ count_same _ (awaits_number x) l idle_numbered (λ i h. waits_wide x (get_or l i idle_numbered))

-- The lead and the places after VALID of the wide gate.
module _ (g : NumberedGate) where
  pub ahead_wide : ahead_in endless (wide g) ≡ ahead_by g
  ahead_wide = ahead_same endless.size (ticket g.issue 0) (ticket g.valid 0) refl

  pub behind_wide : behind_in endless (wide g) ≡ behind_by g
  behind_wide =
      behind_ahead endless.size (ticket g.issue 0) (ticket g.valid 0) (λ e. absurd (e refl))
      ∙ ahead_same endless.size (ticket g.valid 0) (ticket g.issue 0) refl

  pending_i : g.issue < endless.size → (t : ℕ) → g.valid < t → t ≤ g.issue → among (ticket t 0) (pending_in endless (wide g)) ≡ true
  unfolding pending_in
  pending_i c t a b =
      among_i endless 0 (ticket g.valid 0) _ (ticket t 0) (t - g.valid - 1) (omega (arith, behind_wide))
      (sym (place_within endless 0 (ticket g.valid 0) (suc (t - g.valid - 1)) (omega (arith, endless_first)) ∙ ap (λ (x : ℕ). ticket x 0) (omega arith)))

  pending_use : g.issue < endless.size → (u : Ticket) → among u (pending_in endless (wide g)) ≡ true → (g.valid < val u) × (val u ≤ g.issue) × (col u ≡ 0)
  unfolding pending_in
  pending_use c u e =
      let r = among_at endless 0 (ticket g.valid 0) _ u e in
      let h : r.0 < behind_by g = omega (arith, r.1, behind_wide) in
      let q : u ≡ ticket (g.valid + suc r.0) 0 = r.2 ∙ place_within endless 0 (ticket g.valid 0) (suc r.0) (omega (arith, endless_first)) in
      (omega (arith, ap val q), omega (arith, ap val q), ap col q)

  -- A ticket not above ISSUE is none of the places just when it is not above VALID.
  pending_wide : g.issue < endless.size → (t : ℕ) → t ≤ g.issue → not (among (ticket t 0) (pending_in endless (wide g))) ≡ leb t g.valid
  pending_wide c t h =
      by_lt g.valid t
      (λ a. ap not (pending_i c t a h) ∙ sym (lt-leb t g.valid a))
      (λ a. ap not (not_i (among (ticket t 0) (pending_in endless (wide g))) (λ e. omega (arith, (pending_use c (ticket t 0) e).0))) ∙ sym (le-leb t g.valid a))

  other_wide : g.issue < endless.size → (r : NumberedRecord) → (has_ticket r ≡ true → r.ticket ≤ g.issue)
      → holds_other (pending_in endless (wide g)) (wide_record r) ≡ (has_ticket r && not_above_valid g r.ticket)
  other_wide c r h =
      by_bool (has_ticket r)
      (λ e. ap (λ (b : Bool). has_ticket r && b) (pending_wide c r.ticket (h e)))
      (λ e. rw e refl)

  spare_length : length (spare_in endless (wide g)) ≡ ahead_by g
  unfolding spare_in
  spare_length = length_places endless 0 (ticket g.issue 0) _ ∙ ahead_wide

  spare_col : (i : ℕ) → i < length (spare_in endless (wide g)) → col (get_or (spare_in endless (wide g)) i (ticket 0 0)) ≡ 0
  unfolding spare_in
  spare_col i h =
      rw (get_d_places endless 0 (ticket g.issue 0) (ahead_in endless (wide g)) i (ticket 0 0) (omega (arith, length_places endless 0 (ticket g.issue 0) (ahead_in endless (wide g)))))
      (⊎_elim (λ e. e) (λ e. e) (place_col endless 0 (ticket g.issue 0) (suc i)))

  spare_0 : count (λ t. eqb (col t) 0) (spare_in endless (wide g)) ≡ ahead_by g
  spare_0 =
      count_same (λ t. eqb (col t) 0) (λ t. true) (spare_in endless (wide g)) (ticket 0 0) (λ i h. eq-eqb _ _ (spare_col i h))
      ∙ count_true (spare_in endless (wide g)) ∙ spare_length

  spare_other : (c : ℕ) → count (λ t. eqb (col t) (suc c)) (spare_in endless (wide g)) ≡ 0
  spare_other c =
      count_none (λ t. eqb (col t) (suc c)) (spare_in endless (wide g)) (ticket 0 0)
      (λ i h. ne_eqb (col (get_or (spare_in endless (wide g)) i (ticket 0 0))) (suc c) (λ e. omega (arith, spare_col i h)))

pub wide_fits : (g : NumberedGate) → g.n ≤ 1024 → g.k ≤ 64 → Fits endless g.n g.k
wide_fits g a b = record { above_k = omega (arith, endless_size); above_rest = omega (arith, endless_size) }

-- The year of the wide gate is one that the words may keep.
wide_year : (g : NumberedGate) → year_in_range (wide g).year g.n g.k ≡ true
unfolding year_in_range
wide_year g = refl

-- A sound numbered gate is a sound coloured one.
module _ (g : NumberedGate) (l : List NumberedRecord) (i-in : g.issue < endless.size) (v-in : g.valid < endless.size) (s : IsSoundNumbered g l) where
  abbrev ps : List Ticket
  ps = pending_in endless (wide g)

  no_colour : (t : Ticket) → col t ≢ 0 → count (holds t) (wide_list l) ≡ 0
  no_colour t n =
      count_none (holds t) (wide_list l) idle_record (λ i h. not_i _ (λ e.
      n (ap col (holds_is (get_or (wide_list l) i idle_record) t e) ∙ ap (λ (r : Record). r.colour.0) (wide_at l i))))

  distinct_wide : (t : Ticket) → count (holds t) (wide_list l) ≤ 1
  distinct_wide t =
      by_eq (col t) 0
      (λ e.
      let q : ticket (val t) 0 ≡ t = ap (λ (c : ℕ). ticket (val t) c) (sym e) in
      subst (λ (u : Ticket). count (holds u) (wide_list l) ≤ 1) q (omega (arith, count_holds l (val t), s.distinct (val t))))
      (λ e. omega (arith, no_colour t e))

  waited_wide : (t : Ticket) → among t ps ≡ true → 0 < count (waits t) (wide_list l)
  waited_wide t e =
      let u = pending_use g i-in t e in
      let q : ticket (val t) 0 ≡ t = ap (λ (c : ℕ). ticket (val t) c) (sym u.2) in
      subst (λ (x : Ticket). 0 < count (waits x) (wide_list l)) q (omega (arith, count_waits l (val t), s.waited (val t) u.0 u.1))

  count_other : count (holds_other ps) (wide_list l) ≡ count (λ r. has_ticket r && not_above_valid g r.ticket) l
  count_other =
      count_map wide_record (holds_other ps) l
      ∙ count_same _ (λ r. has_ticket r && not_above_valid g r.ticket) l idle_numbered (λ i h. other_wide g i-in (get_or l i idle_numbered) (s.issue_top i h))

  count_other_in : (c : ℕ) → count (holds_other_in ps c) (wide_list l) ≡ count (λ r. holds_other ps (wide_record r) && eqb 0 c) l
  count_other_in c = count_map wide_record (holds_other_in ps c) l

  counted_wide : (c : ℕ) → c < 65 → get_or (wide g).counts c 0 ≡ count (holds_other_in ps c) (wide_list l) + count (λ t. eqb (col t) c) (spare_in endless (wide g))
  counted_wide zero h =
      omega (
        arith,
        s.number,
        count_other_in 0,
        count_same (λ r. holds_other ps (wide_record r) && eqb 0 0) (λ r. has_ticket r && not_above_valid g r.ticket) l idle_numbered
            (λ i b. and_true (holds_other ps (wide_record (get_or l i idle_numbered))) ∙ other_wide g i-in (get_or l i idle_numbered) (s.issue_top i b)),
        spare_0 g,
      )
  counted_wide (suc c) h =
      omega (
        arith,
        get_or-replicate {A = ℕ} 64 c 0 0 (omega arith),
        count_other_in (suc c),
        count_none (λ r. holds_other ps (wide_record r) && eqb 0 (suc c)) l idle_numbered
            (λ i b. ap (λ (x : Bool). holds_other ps (wide_record (get_or l i idle_numbered)) && x) (ne_eqb 0 (suc c) (λ e. omega arith)) ∙ and_false (holds_other ps (wide_record (get_or l i idle_numbered)))),
        spare_other g c,
      )

  above_wide : (c : ℕ) → c < 65 → g.k < c → get_or (wide g).counts c 0 ≡ 0
  above_wide zero h b = absurd (omega arith)
  above_wide (suc c) h b = get_or-replicate 64 c 0 0 (omega arith)

  -- The holder of a place waits, so no other holds it from inside.
  inside_wide : Each (λ r. inside r ≡ true → among (ticket_of r) ps ≡ false) (wide_list l)
  inside_wide i h e =
      let x = get_or (wide_list l) i idle_record in
      not_i _ (λ a.
      let w = count_find (waits (ticket_of x)) (wide_list l) idle_record (waited_wide (ticket_of x) a) in
      let y = get_or (wide_list l) w.0 idle_record in
      omega (
        arith,
        distinct_wide (ticket_of x),
        count_two (holds (ticket_of x)) (wide_list l) i w.0 idle_record h w.1
            (λ z. omega (arith, inside_region x e, waits_region y (ticket_of x) w.2, ap (λ (j : ℕ). (get_or (wide_list l) j idle_record).region) z))
            (holds_i x (ticket_of x) (inside_held x e) refl) (waits_holds y (ticket_of x) w.2),
      ))

  pub is_wide : IsSoundIn endless (wide g) (wide_list l)
  is_wide = record {
    fits = wide_fits g s.n_high s.k_high;
    year_ok = wide_year g;
    n_low = s.n_low;
    n_high = s.n_high;
    k_low = s.k_low;
    k_high = s.k_high;
    issue_in = record { low = omega (arith, endless_first); high = omega (arith, endless_first) };
    issue_col = omega arith;
    valid_in_lem = record { low = omega (arith, endless_first); high = omega (arith, endless_first) };
    valid_col = omega arith;
    above = above_wide;
    records =
        each_wide l (RecordInRange endless g.k) (λ i h.
        record {
          region_ok = s.region_ok i h;
          mark_ok = s.mark_ok i h;
          ticket_in = λ e. record { low = omega (arith, endless_first); high = omega (arith, endless_first, s.issue_top i h e) };
          colour_ok = omega arith;
          idle_value = s.idle_ticket i h;
          idle_colour = λ e. refl;
        });
    ahead_most = omega (arith, ahead_wide g, s.ahead_most);
    behind_most = omega (arith, behind_wide g, s.behind_most);
    distinct = distinct_wide;
    issue_top = each_wide l (λ r. held r ≡ true → r.colour.0 ≡ 0 → r.value.0 ≤ g.issue) (λ i h e c. s.issue_top i h e);
    valid_new = λ e p. absurd (e refl);
    waited = waited_wide;
    others = omega (arith, count_other, ahead_wide g, s.number);
    own = λ z. omega (arith, count_holds l g.valid, s.own (omega (arith, ahead_wide g)));
    no_inside = inside_wide;
    counted = counted_wide;
  }

-- And the other way.
pub wide_is : (g : NumberedGate) (l : List NumberedRecord) → IsSoundIn endless (wide g) (wide_list l) → IsSoundNumbered g l
wide_is g l s =
    let i-in : g.issue < endless.size = omega (arith, s.issue_in.high, endless_first) in
    let top : (i : ℕ) → i < length l → has_ticket (get_or l i idle_numbered) ≡ true → (get_or l i idle_numbered).ticket ≤ g.issue =
    λ i h e. each_narrow l (λ r. held r ≡ true → r.colour.0 ≡ 0 → r.value.0 ≤ g.issue) s.issue_top i h e refl in
    record {
      n_low = s.n_low;
      n_high = s.n_high;
      k_low = s.k_low;
      k_high = s.k_high;
      region_ok = λ i h. (each_narrow l (RecordInRange endless g.k) s.records i h).region_ok;
      mark_ok = λ i h. (each_narrow l (RecordInRange endless g.k) s.records i h).mark_ok;
      idle_ticket = λ i h. (each_narrow l (RecordInRange endless g.k) s.records i h).idle_value;
      distinct = λ t. omega (arith, count_holds l t, s.distinct (ticket t 0));
      issue_top = top;
      ahead_most = omega (arith, ahead_wide g, s.ahead_most);
      behind_most = omega (arith, behind_wide g, s.behind_most);
      waited = λ t a b. omega (arith, count_waits l t, s.waited (ticket t 0) (pending_i g i-in t a b));
      number = omega (
        arith,
        s.others,
        ahead_wide g,
        count_map wide_record (holds_other (pending_in endless (wide g))) l,
        count_same (λ r. holds_other (pending_in endless (wide g)) (wide_record r)) (λ r. has_ticket r && not_above_valid g r.ticket) l idle_numbered
            (λ i h. other_wide g i-in (get_or l i idle_numbered) (top i h)),
      );
      own = λ h. omega (arith, count_holds l g.valid, s.own (omega (arith, ahead_wide g)));
    }

pub wide_sound : (g : NumberedGate) (l : List NumberedRecord) → sound_in endless (wide g) (wide_list l) ≡ true → sound_numbered g l ≡ true
wide_sound g l e =
    let w = sizes_use endless (wide g) (wide_list l) e in
    numbered_i g l (wide_is g l (sound_in_use endless (wide g) (wide_list l) (wide_fits g w.1 w.3) e))

-- The numbered gate's soundness is the wide gate's in the endless block. That both counters are in range is what their type says.
pub numbered_sound_is : (g : NumberedGate) (l : List NumberedRecord) → g.issue < endless.size → g.valid < endless.size → sound_numbered g l ≡ sound_in endless (wide g) (wide_list l)
numbered_sound_is g l a b =
    bool_ext (sound_numbered g l) (sound_in endless (wide g) (wide_list l))
    (λ e. sound_i (wide g) (wide_list l) (is_wide g l a b (numbered_use g l e))) (wide_sound g l)
