-- Bins: what the bin of one record says of the ticket that it holds, and what the bins of all records say.
--
-- Main statements: `bin_holds` (bin 65 + j, for j from 1 on, is that of the holders of the j-th place after VALID), `bin_colour` (bin c is
-- that of the holders of other tickets of the colour c), `Counted` (the bins count the records), `place_counted`, `colour_counted`.
use Prim.Native.Nat.{suc, zero, ℕ, ◌+◌, ◌-◌, ◌<◌, ◌≤◌}
use mathlib.Core.Path.{ap, refl, sym, ◌∙◌, ◌≡◌}
use mathlib.Core.Bool.{Bool, false, true, ◌&&◌}
use mathlib.Core.List.{List}
use mathlib.Core.Logic.{⊎_elim, ◌≢◌}
use native.Mathlib.Omega.{arith}
use lib.ListN.{get_or, length, replicate}
use lib.Dec.{eqb, leb, ltb}
use borrow.Author.Tests.{eq-eqb, eqb-true, ne_eqb}
use Rattle.model.specs.declared.Record.{Record}
use Rattle.model.specs.declared.Ticket.{Ticket}
use Rattle.ranges.specs.declared.lead.Lead.{Lead}
use Rattle.tally.specs.declared.record.Class.TheVariants.{Idle, Other, Place}
use Rattle.model.specs.Calls.{idle_record}
use Rattle.model.specs.Lists.{count}
use Rattle.model.specs.Sound.{among, held, holds, holds_other, ticket_of}
use Rattle.model.specs.Steps.{InBlock, col, ticket, val}
use Rattle.ranges.specs.Lead.{Apart, LeadBounds, lead_block, pending_of}
use Rattle.tally.specs.Places.{PlaceAsks, place_colour, places_after}
use Rattle.tally.specs.Bins.{IsClass, bin_of, idle_bin, record_sound, top_value}
use Rattle.model.proofs.Blocks.{among_at, among_i, near, place}
use Rattle.model.proofs.Counting.{count_same}
use Rattle.model.proofs.IsSound.{Each, RecordInRange}
use Rattle.model.proofs.Logic.{and_l, and_r, bool_ext, by_bool, by_eq, clash, not_i, or_cases}
use Rattle.model.proofs.RecordTests.{held_i, held_not, holds_held, holds_i, holds_is, holds_other_in, inside_held, inside_region, other_held, other_i, other_not, other_in_i}
use Rattle.ranges.proofs.LeadLaws.{apart}
use Rattle.tally.proofs.PlaceLaws.{after_place, among_colour, among_far, near_is}
use Rattle.tally.proofs.RecordLaws.{record_anew, record_inside, record_issue, record_range, record_sound_i}

-- The j-th place after VALID.
abbrev pub place_of : Lead → ℕ → Ticket
place_of w j = place (lead_block w) (col w.issue) w.valid j

-- The bin of one record.
module _ (w : Lead) (r : Record) where
  pub bin_idle : held r ≡ false → bin_of w r ≡ idle_bin
  unfolding bin_of
  bin_idle e = simp e

  bin_pending : held r ≡ true → among (ticket_of r) (pending_of w) ≡ true → bin_of w r ≡ idle_bin + places_after w.size (val w.valid) r.value.0
  unfolding bin_of
  bin_pending e f = simp (e, f)

  bin_other : held r ≡ true → among (ticket_of r) (pending_of w) ≡ false → bin_of w r ≡ r.colour.0
  unfolding bin_of
  bin_other e f = simp (e, f)

  module _ (h : LeadBounds w) where
    -- The number of the place that r holds.
    pub bin_at : held r ≡ true → among (ticket_of r) (pending_of w) ≡ true
        → (j : ℕ) × (j < w.behind) × (ticket_of r ≡ place_of w (suc j)) × (bin_of w r ≡ idle_bin + suc j)
    unfolding pending_of
    bin_at e f =
        let a = among_at (lead_block w) (col w.issue) w.valid w.behind (ticket_of r) f in (
          a.0,
          a.1,
          a.2,
          bin_pending e f
              ∙ ap (λ (x : ℕ). idle_bin + x) (ap (λ (t : Ticket). places_after w.size (val w.valid) (val t)) a.2
              ∙ after_place (lead_block w) (col w.issue) w.valid (suc a.0) h.valid_in_lem.high (omega arith) (omega (arith, a.1, h.behind_below))),
        )

    -- Where r breaks no clause by itself, its bin tells whether it holds a place after VALID, and which, or another ticket.
    module _ (k : r.colour.0 ≤ w.k) where
      pub bin_holds : (j : ℕ) → j < w.behind → eqb (bin_of w r) (idle_bin + suc j) ≡ holds (place_of w (suc j)) r
      unfolding pending_of
      bin_holds j l =
          bool_ext _ _
          (λ e.
          let s : bin_of w r ≡ idle_bin + suc j = eqb-true _ _ e in
          by_bool (held r)
          (λ p. by_bool (among (ticket_of r) (pending_of w))
          (λ q.
          let a = bin_at p q in
          let n : suc a.0 ≡ suc j = omega (arith, a.3, s) in
          holds_i r _ p (sym (a.2 ∙ ap (place_of w) n)))
          (λ q. absurd (omega (arith, bin_other p q, k, h.k_most))))
          (λ p. absurd (omega (arith, bin_idle p))))
          (λ e.
          let q = holds_is r _ e in
          let p : held r ≡ true = holds_held r (place_of w (suc j)) e in
          let a : among (ticket_of r) (pending_of w) ≡ true = among_i (lead_block w) (col w.issue) w.valid w.behind (ticket_of r) j l (sym q) in
          eq-eqb _ _ (bin_pending p a ∙ ap (λ (x : ℕ). idle_bin + x) (ap (λ (t : Ticket). places_after w.size (val w.valid) (val t)) (sym q)
          ∙ after_place (lead_block w) (col w.issue) w.valid (suc j) h.valid_in_lem.high (omega arith) (omega (arith, h.behind_below)))))

      pub bin_colour : (c : ℕ) → c < idle_bin → eqb (bin_of w r) c ≡ holds_other_in (pending_of w) c r
      bin_colour c l =
          bool_ext _ _
          (λ e.
          let s : bin_of w r ≡ c = eqb-true _ _ e in
          by_bool (held r)
          (λ p. by_bool (among (ticket_of r) (pending_of w))
          (λ q. let a = bin_at p q in absurd (omega (arith, a.3)))
          (λ q. other_in_i r (pending_of w) c p q (omega (arith, bin_other p q))))
          (λ p. absurd (omega (arith, bin_idle p))))
          (λ e.
          let a : holds_other (pending_of w) r ≡ true = and_l (holds_other (pending_of w) r) _ e in
          let q : r.colour.0 ≡ c = eqb-true _ _ (and_r (holds_other (pending_of w) r) _ e) in
          eq-eqb _ _ (bin_other (other_held r (pending_of w) a) (other_not r (pending_of w) a) ∙ omega arith))

      -- Whether r holds another ticket, or a place after VALID, by its bin.
      pub other_low : holds_other (pending_of w) r ≡ true → bin_of w r < idle_bin
      other_low a = omega (arith, bin_other (other_held r (pending_of w) a) (other_not r (pending_of w) a), k, h.k_most)

      pub low_other : bin_of w r < idle_bin → holds_other (pending_of w) r ≡ true
      low_other g =
          by_bool (held r)
          (λ p. by_bool (among (ticket_of r) (pending_of w))
          (λ q. let a = bin_at p q in absurd (omega (arith, a.3)))
          (λ q. other_i r (pending_of w) p q))
          (λ p. absurd (omega (arith, bin_idle p)))

-- The bins count the records, but for the idle ones.
pub record Counted (w : Lead) (l : List Record) (s : List ℕ) : Type 0 where
  pub room : idle_bin + w.behind < length s
  pub bin : (x : ℕ) → x ≢ idle_bin → get_or s x 0 ≡ count (λ y. eqb (bin_of w y) x) l

module _ (w : Lead) (h : LeadBounds w) (l : List Record) (s : List ℕ) (k : Each (λ r. r.colour.0 ≤ w.k) l) (q : Counted w l s) where
  -- The holders of a place after VALID, and of the other tickets of a colour.
  pub place_counted : (j : ℕ) → j < w.behind → get_or s (idle_bin + suc j) 0 ≡ count (holds (place_of w (suc j))) l
  place_counted j z =
      q.bin (idle_bin + suc j) (λ e. omega arith) ∙ count_same _ _ l idle_record (λ i y. bin_holds w _ h (k i y) j z)

  pub colour_counted : (c : ℕ) → c < idle_bin → get_or s c 0 ≡ count (holds_other_in (pending_of w) c) l
  colour_counted c z = q.bin c (λ e. omega arith) ∙ count_same _ _ l idle_record (λ i y. bin_colour w _ h (k i y) c z)

-- At first there is no record in any bin.
pub zeros : (n x : ℕ) → get_or {A = ℕ} (replicate n 0) x 0 ≡ 0
zeros zero x = refl
zeros (suc n) zero = refl
zeros (suc n) (suc x) = zeros n x

-- A place after VALID has VALID's colour or ISSUE's, so that its colour is in range.
place_colour_most : (w : Lead) (v c : ℕ) → LeadBounds w → PlaceAsks w.first (ticket v c) w.valid w.behind w.size
    → among (ticket v c) (pending_of w) ≡ true → c ≤ w.k
unfolding pending_of near
place_colour_most w v c h q e =
    let u = w.valid in
    let own : Bool = eqb c (col u) && ltb (val u) v && leb v (val u + w.behind) in
    let next : Bool = eqb c (col w.issue) && leb (v + w.size) (val u + w.behind) in
    ⊎_elim
    (λ (a : own ≡ true). omega (arith, h.valid_colour, eqb-true c (col u) (and_l (eqb c (col u)) (ltb (val u) v) (and_l (eqb c (col u) && ltb (val u) v) _ a))))
    (λ (a : next ≡ true). omega (arith, h.issue_colour, eqb-true c (col w.issue) (and_l (eqb c (col w.issue)) _ a)))
    (or_cases own next (near_is w.first (ticket v c) u (col w.issue) w.behind w.size q ∙ e))

-- The returns of `class_of_record`. First a record that breaks a clause.
module _ (w : Lead) (r : Record) where
  pub mark_high : 1 < r.mark → record_sound w r ≡ false
  mark_high n = not_i _ (λ e. omega (arith, (record_range w r e).mark_ok))

  pub region_high : 2 < r.region → record_sound w r ≡ false
  region_high n = not_i _ (λ e. omega (arith, (record_range w r e).region_ok))

  pub colour_high : w.k < r.colour.0 → record_sound w r ≡ false
  colour_high n = not_i _ (λ e. omega (arith, (record_range w r e).colour_ok))

  -- An idle record.
  module _ (z : r.region ≡ 0) where
    pub idle_ticket : (r.value.0 ≡ 0 → r.colour.0 ≡ 0 → ⊥) → record_sound w r ≡ false
    idle_ticket n = not_i _ (λ e. let g = record_range w r e in n (g.idle_value z) (g.idle_colour z))

    pub is_idle : r.mark ≤ 1 → r.value.0 ≡ 0 → r.colour.0 ≡ 0 → IsClass w r Idle
    is_idle m v c =
        let n = held_not r z in
        record {
          binned =
              record {
                keeps =
                    record_sound_i w r
                    (record {
                      region_ok = omega arith;
                      mark_ok = m;
                      ticket_in = λ p. clash _ p n;
                      colour_ok = omega arith;
                      idle_value = λ p. v;
                      idle_colour = λ p. c;
                    })
                    (λ p. clash _ p n)
                    (λ a p. clash _ p n)
                    (λ p. clash _ (inside_held r p) n);
                bin = sym (bin_idle w r n);
                room = omega arith;
              };
          first = omega arith;
        }

  -- A record that holds a ticket.
  module _ (z : r.region ≢ 0) where
    pub below_first : r.value.0 < w.first → record_sound w r ≡ false
    below_first n = not_i _ (λ e. omega (arith, n, ((record_range w r e).ticket_in (held_i r z)).low))

    pub above_top : {top : ℕ} → top ≡ top_value r.colour.0 w.issue (w.first + w.size - 1) → top < r.value.0 → record_sound w r ≡ false
    unfolding top_value
    above_top t n =
        not_i _ (λ e.
        by_eq r.colour.0 (col w.issue)
        (λ q. omega (arith, n, simp (eq-eqb r.colour.0 (col w.issue) q) at t, record_issue w r e (held_i r z) q))
        (λ q. omega (arith, n, simp (ne_eqb r.colour.0 (col w.issue) q) at t, ((record_range w r e).ticket_in (held_i r z)).high)))

-- What the tests of its value say of a record that holds a ticket.
pub record ValueIn (w : Lead) (r : Record) : Type 0 where
  pub bounds : LeadBounds w
  pub holds : r.region ≢ 0
  pub value : InBlock (lead_block w) (ticket_of r)
  pub below : r.colour.0 ≡ col w.issue → r.value.0 ≤ val w.issue

pub value_in : (w : Lead) (r : Record) {top : ℕ} → LeadBounds w → r.region ≢ 0 → w.first ≤ r.value.0 → top ≡ top_value r.colour.0 w.issue (w.first + w.size - 1)
    → r.value.0 ≤ top → ValueIn w r
unfolding top_value
value_in w r h z low e n =
    record {
      bounds = h;
      holds = z;
      value =
          record {
            low = low;
            high =
                by_eq r.colour.0 (col w.issue)
                (λ q. omega (arith, n, simp (eq-eqb r.colour.0 (col w.issue) q) at e, h.issue_in.high))
                (λ q. omega (arith, n, simp (ne_eqb r.colour.0 (col w.issue) q) at e, h.issue_in.high));
          };
      below = λ q. omega (arith, n, simp (eq-eqb r.colour.0 (col w.issue) q) at e);
    }

module _ (w : Lead) (r : Record) (h : ValueIn w r) where
  place_asks : PlaceAsks w.first (ticket_of r) w.valid w.behind w.size
  place_asks = record { word_in = h.bounds.valid_in_lem; ticket_in = h.value; few = h.bounds.behind_below }

  pub after_asks : Apart w.size (val w.valid) r.value.0
  after_asks = apart (lead_block w) w.valid (ticket_of r) h.bounds.last_most h.bounds.valid_in_lem h.value

  in_range : r.region ≤ 2 → r.mark ≤ 1 → r.colour.0 ≤ w.k → RecordInRange (lead_block w) w.k r
  in_range a b c =
      record {
        region_ok = a;
        mark_ok = b;
        ticket_in = λ p. h.value;
        colour_ok = c;
        idle_value = λ p. absurd (h.holds p);
        idle_colour = λ p. absurd (h.holds p);
      }

  -- Its ticket lies j places after VALID.
  module _ {j : ℕ} (ej : j ≡ places_after w.size (val w.valid) r.value.0) where
    abbrev own : ℕ
    own = place_colour r.value.0 w.valid (col w.issue)

    pub is_place : j ≤ w.behind → r.colour.0 ≡ own → among (ticket_of r) (pending_of w) ≡ true
    unfolding pending_of
    is_place n e =
        sym (among_colour w.first (ticket_of r) w.valid (col w.issue) w.behind w.size place_asks (omega arith)) ∙ eq-eqb r.colour.0 own e

    pub is_far : w.behind < j → among (ticket_of r) (pending_of w) ≡ false
    unfolding pending_of
    is_far n = sym (among_far w.first (ticket_of r) w.valid (col w.issue) w.behind w.size place_asks (omega arith))

    pub is_other : j ≤ w.behind → r.colour.0 ≢ own → among (ticket_of r) (pending_of w) ≡ false
    unfolding pending_of
    is_other n e =
        sym (among_colour w.first (ticket_of r) w.valid (col w.issue) w.behind w.size place_asks (omega arith)) ∙ ne_eqb r.colour.0 own e

    -- It is the j-th place after VALID.
    pub waits_for : among (ticket_of r) (pending_of w) ≡ true → r.mark ≤ 1 → r.region ≡ 1 → IsClass w r (Place j)
    waits_for a m o =
        let p = bin_at w r h.bounds (held_i r h.holds) a in
        let b : bin_of w r ≡ idle_bin + j = bin_pending w r (held_i r h.holds) a ∙ ap (λ (u : ℕ). idle_bin + u) (sym ej) in
        record {
          binned =
              record {
                keeps =
                    record_sound_i w r
                    (in_range (omega arith) m (place_colour_most w r.value.0 r.colour.0 h.bounds place_asks a))
                    (λ p q. h.below q)
                    (λ u q. absurd (omega (arith, h.bounds.anew_not_behind u, p.1)))
                    (λ q. absurd (omega (arith, o, inside_region r q)));
                bin = sym b;
                room = omega (arith, b, p.3, p.1);
              };
          first = omega (arith, b, p.3);
        }

  pub place_unwaited : among (ticket_of r) (pending_of w) ≡ true → r.region ≢ 1 → record_sound w r ≡ false
  place_unwaited a g =
      not_i _ (λ s. by_eq r.region 2
      (λ t. clash _ a (record_inside w r s (eq-eqb r.region 2 t)))
      (λ t. omega (arith, h.holds, g, t, (record_range w r s).region_ok)))

  pub colour_held : w.anew ≡ true → r.colour.0 ≡ col w.valid → record_sound w r ≡ false
  colour_held u e = not_i _ (λ s. record_anew w r s u (held_i r h.holds) e)

  -- It is none of the places after VALID.
  pub holds_another : among (ticket_of r) (pending_of w) ≡ false → r.mark ≤ 1 → r.region ≤ 2 → r.colour.0 ≤ w.k
      → (w.anew ≡ true → r.colour.0 ≢ col w.valid) → IsClass w r Other
  holds_another a m o c g =
      record {
        binned =
            record {
              keeps = record_sound_i w r (in_range o m c) (λ p q. h.below q) (λ u p. g u) (λ p. a);
              bin = sym (bin_other w r (held_i r h.holds) a);
              room = omega (arith, c, h.bounds.k_most);
            };
        first = omega arith;
      }
