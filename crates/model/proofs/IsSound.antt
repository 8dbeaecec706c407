-- What the test `sound_in` decides, as facts: in a block b that fits, `sound_in b g l ≡ true` is the same as the record `IsSoundIn b g l`.
--
-- Main statements: `IsSoundIn` (that the block fits, and the clauses of "A sound gate" as propositions), `sound_in_use`, `sound_i`; in the
-- gate's own block: `IsSound`, `year_fits`, `own_fits`, `sound_use`.
use Prim.Native.Nat.{ℕ, ◌+◌, ◌-◌, ◌≤◌, ◌<◌}
use mathlib.Core.Path.{◌≡◌, refl, sym, subst}
use mathlib.Core.Bool.{true, false, not, cond, ◌&&◌, ◌||◌}
use mathlib.Core.List.{List}
use mathlib.Core.Logic.{◌≢◌}
use native.Mathlib.Omega.{arith}
use lib.ListN.{get_or, length}
use lib.Dec.{eqb, ltb, leb}
use borrow.Author.Tests.{not-true, not-false, ltb-true, leb-true, eqb-true, eqb-false, lt-ltb, le-leb, eq-eqb, ne_eqb}
use Rattle.model.specs.declared.Ticket.{Ticket}
use Rattle.model.specs.declared.Gate.{Gate}
use Rattle.model.specs.declared.Record.{Record}
use Rattle.model.specs.Lists.{count}
use Rattle.model.specs.Steps.{Block, Fits, InBlock, block_of, col, leads, same_ticket, val, year_block}
use Rattle.model.specs.Sound.{ahead_in, among, behind_in, count_right, counts_above_zero, counts_right, held, holds, holds_other, idle, inside, lead_range_in, none_above_issue, none_pending_inside, others_number_k, pending_awaited, pending_in, record_in_range, records_in_range, sound, sound_in, spare_in, ticket_in_range, ticket_of, tickets_distinct, valid_colour_unheld, valid_held, words_range_in, year_in_range}
use Rattle.model.specs.Calls.{idle_record}
use Rattle.model.proofs.Logic.{by_bool, by_lt, and_l, and_r, and_i, clash, implies_use, implies_i, not_i, not_not}
use Rattle.model.proofs.Counting.{all_at, all_i, any_at, any_i, any_count, count_any, count_find, below_at, below_i}
use Rattle.model.proofs.Blocks.{same_true, same_refl}
use Rattle.model.proofs.Moves.{ahead_less, ahead_more, leads_less, less_leads}
use Rattle.model.proofs.Year1979.{fits_1979}
use Rattle.model.proofs.Year1989.{fits_1989}
use Rattle.model.proofs.RecordTests.{waits, holds_other_in, held_not}

-- A fact of each record of a list.
abbrev pub Each : (Record → Type 0) → List Record → Type 0
Each P l = (i : ℕ) → i < length l → P (get_or l i idle_record)

pub record RecordInRange (b : Block) (k : ℕ) (r : Record) : Type 0 where
  pub region_ok : r.region ≤ 2
  pub mark_ok : r.mark ≤ 1
  pub ticket_in : held r ≡ true → InBlock b (ticket_of r)
  pub colour_ok : r.colour.0 ≤ k
  pub idle_value : r.region ≡ 0 → r.value.0 ≡ 0
  pub idle_colour : r.region ≡ 0 → r.colour.0 ≡ 0

pub record IsSoundIn (B : Block) (g : Gate) (l : List Record) : Type 0 where
  pub fits : Fits B g.n g.k
  pub year_ok : year_in_range g.year g.n g.k ≡ true
  pub n_low : 1 ≤ g.n
  pub n_high : g.n ≤ 1024
  pub k_low : 1 ≤ g.k
  pub k_high : g.k ≤ 64
  pub issue_in : InBlock B g.issue
  pub issue_col : col g.issue ≤ g.k
  pub valid_in_lem : InBlock B g.valid
  pub valid_col : col g.valid ≤ g.k
  pub above : (c : ℕ) → c < 65 → g.k < c → get_or g.counts c 0 ≡ 0
  pub records : Each (RecordInRange B g.k) l
  pub ahead_most : ahead_in B g ≤ g.k
  pub behind_most : behind_in B g ≤ g.n - g.k
  pub distinct : (t : Ticket) → count (holds t) l ≤ 1
  pub issue_top : Each (λ r. held r ≡ true → r.colour.0 ≡ col g.issue → r.value.0 ≤ val g.issue) l
  pub valid_new : col g.issue ≢ col g.valid → 0 < ahead_in B g → Each (λ r. held r ≡ true → r.colour.0 ≢ col g.valid) l
  pub waited : (t : Ticket) → among t (pending_in B g) ≡ true → 0 < count (waits t) l
  pub others : count (holds_other (pending_in B g)) l + ahead_in B g ≡ g.k
  pub own : ahead_in B g ≡ 0 → 0 < count (holds g.valid) l
  pub no_inside : Each (λ r. inside r ≡ true → among (ticket_of r) (pending_in B g) ≡ false) l
  pub counted : (c : ℕ) → c < 65 → get_or g.counts c 0 ≡ count (holds_other_in (pending_in B g) c) l + count (λ t. eqb (col t) c) (spare_in B g)

-- In the gate's own block.
abbrev pub IsSound : Gate → List Record → Type 0
IsSound g l = IsSoundIn (block_of g) g l

-- The block of a year that the words may keep fits.
pub year_fits : (year n k : ℕ) → 1 ≤ k → year_in_range year n k ≡ true → Fits (year_block year n k) n k
unfolding year_block year_in_range
year_fits year n k slot e =
    by_bool (eqb year 1979)
    (λ y.
    let h : (eqb year 1979 && not (ltb k n)) ≡ false = not-true _ (and_r (eqb year 1979 || eqb year 1989) _ e) in
    rw y (fits_1979 n k slot (ltb-true k n (not-false (ltb k n) (rw y at h)))))
    (λ y. rw y (fits_1989 n k))

-- A ticket in range.
pub ticket_use : (b : Block) (k : ℕ) (t : Ticket) → ticket_in_range b k t ≡ true → InBlock b t × (col t ≤ k)
unfolding ticket_in_range
ticket_use b k t e =
    let a = and_l (leb b.first (val t) && ltb (val t) (b.first + b.size)) _ e in (
      record { low = leb-true _ _ (and_l _ _ a); high = ltb-true _ _ (and_r (leb b.first (val t)) _ a) },
      leb-true _ _ (and_r (leb b.first (val t) && ltb (val t) (b.first + b.size)) _ e),
    )

pub ticket_i : (b : Block) (k : ℕ) (t : Ticket) → InBlock b t → col t ≤ k → ticket_in_range b k t ≡ true
unfolding ticket_in_range
ticket_i b k t h c = and_i _ _ (and_i _ _ (le-leb _ _ h.low) (lt-ltb _ _ h.high)) (le-leb _ _ c)

-- A record in range, idle or not.
pub record_use : (b : Block) (k : ℕ) (r : Record) → record_in_range b k r ≡ true → RecordInRange b k r
unfolding record_in_range
record_use b k r e =
    let x = and_l (leb r.region 2 && leb r.mark 1) _ e in
    let y : cond (idle r) (eqb r.value.0 0 && eqb r.colour.0 0) (ticket_in_range b k (ticket_of r)) ≡ true =
    and_r (leb r.region 2 && leb r.mark 1) _ e in
    by_bool (idle r)
    (λ i.
    let z : (eqb r.value.0 0 && eqb r.colour.0 0) ≡ true = simp i at y in
    let v : r.value.0 ≡ 0 = eqb-true _ _ (and_l _ _ z) in
    let c : r.colour.0 ≡ 0 = eqb-true _ _ (and_r (eqb r.value.0 0) _ z) in
    record {
      region_ok = leb-true _ _ (and_l _ _ x);
      mark_ok = leb-true _ _ (and_r (leb r.region 2) _ x);
      ticket_in = λ h. clash _ h (held_not r (eqb-true _ _ i));
      colour_ok = omega arith;
      idle_value = λ q. v;
      idle_colour = λ q. c;
    })
    (λ i.
    let z = ticket_use b k (ticket_of r) (simp i at y) in
    record {
      region_ok = leb-true _ _ (and_l _ _ x);
      mark_ok = leb-true _ _ (and_r (leb r.region 2) _ x);
      ticket_in = λ h. z.0;
      colour_ok = z.1;
      idle_value = λ q. absurd (eqb-false _ _ i q);
      idle_colour = λ q. absurd (eqb-false _ _ i q);
    })

pub record_i : (b : Block) (k : ℕ) (r : Record) → RecordInRange b k r → record_in_range b k r ≡ true
unfolding record_in_range
record_i b k r s =
    and_i _ _ (and_i _ _ (le-leb _ _ s.region_ok) (le-leb _ _ s.mark_ok))
    (by_bool (idle r)
    (λ i. simp i (and_i _ _ (eq-eqb _ _ (s.idle_value (eqb-true _ _ i))) (eq-eqb _ _ (s.idle_colour (eqb-true _ _ i)))))
    (λ i. simp i (ticket_i b k (ticket_of r) (s.ticket_in (not_not _ i)) s.colour_ok)))

module _ (B : Block) (g : Gate) (l : List Record) where
  -- The twelve tests.
  abbrev Parts : Type 0
  Parts =
      (words_range_in B g ≡ true) × (counts_above_zero g ≡ true) × (records_in_range B g l ≡ true) × (lead_range_in B g ≡ true) × (tickets_distinct l ≡ true)
      × (none_above_issue g l ≡ true) × (valid_colour_unheld g l ≡ true) × (pending_awaited B g l ≡ true) × (others_number_k B g l ≡ true)
      × (valid_held B g l ≡ true) × (none_pending_inside B g l ≡ true) × (counts_right B g l ≡ true)

  parts : sound_in B g l ≡ true → Parts
  unfolding sound_in
  parts e = search (and_l, and_r) depth 14

  parts_i : Parts → sound_in B g l ≡ true
  unfolding sound_in
  parts_i p = search and_i depth 14

  abbrev Words : Type 0
  Words =
      (leb 1 g.n ≡ true) × (leb g.n 1024 ≡ true) × (leb 1 g.k ≡ true) × (leb g.k 64 ≡ true)
      × (ticket_in_range B g.k g.issue ≡ true) × (ticket_in_range B g.k g.valid ≡ true) × (year_in_range g.year g.n g.k ≡ true)

  words : words_range_in B g ≡ true → Words
  unfolding words_range_in
  words e = search (and_l, and_r) depth 8

  words_i : Words → words_range_in B g ≡ true
  unfolding words_range_in
  words_i r = search and_i depth 8

  above_use : counts_above_zero g ≡ true → (c : ℕ) → c < 65 → g.k < c → get_or g.counts c 0 ≡ 0
  unfolding counts_above_zero
  above_use e c h q = eqb-true _ _ (implies_use _ _ (below_at _ 65 e c h) (lt-ltb _ _ q))

  above_i : ((c : ℕ) → c < 65 → g.k < c → get_or g.counts c 0 ≡ 0) → counts_above_zero g ≡ true
  unfolding counts_above_zero
  above_i f = below_i _ 65 (λ c h. implies_i _ _ (λ q. eq-eqb _ _ (f c h (ltb-true _ _ q))))

  records_use : records_in_range B g l ≡ true → Each (RecordInRange B g.k) l
  unfolding records_in_range
  records_use e i h = record_use B g.k _ (all_at _ l idle_record e i h)

  records_i : Each (RecordInRange B g.k) l → records_in_range B g l ≡ true
  unfolding records_in_range
  records_i f = all_i _ l idle_record (λ i h. record_i B g.k _ (f i h))

  lead_use : lead_range_in B g ≡ true → (ahead_in B g ≤ g.k) × (behind_in B g ≤ g.n - g.k)
  unfolding lead_range_in
  lead_use e = (leb-true _ _ (and_l _ _ e), leb-true _ _ (and_r (leb (ahead_in B g) g.k) _ e))

  lead_i : ahead_in B g ≤ g.k → behind_in B g ≤ g.n - g.k → lead_range_in B g ≡ true
  unfolding lead_range_in
  lead_i a b = and_i _ _ (le-leb _ _ a) (le-leb _ _ b)

  distinct_use : tickets_distinct l ≡ true → (t : Ticket) → count (holds t) l ≤ 1
  unfolding tickets_distinct
  distinct_use e t =
      by_lt 0 (count (holds t) l)
      (λ h.
      let r = count_find (holds t) l idle_record h in
      let x = get_or l r.0 idle_record in
      let q : t ≡ ticket_of x = same_true t (ticket_of x) (and_r (held x) _ r.2) in
      rw q (leb-true _ _ (implies_use _ _ (all_at _ l idle_record e r.0 r.1) (and_l (held x) _ r.2))))
      (λ h. omega arith)

  distinct_i : ((t : Ticket) → count (holds t) l ≤ 1) → tickets_distinct l ≡ true
  unfolding tickets_distinct
  distinct_i f = all_i _ l idle_record (λ i h. implies_i (held (get_or l i idle_record)) _ (λ e. le-leb _ _ (f (ticket_of (get_or l i idle_record)))))

  issue_top_use : none_above_issue g l ≡ true → Each (λ r. held r ≡ true → r.colour.0 ≡ col g.issue → r.value.0 ≤ val g.issue) l
  unfolding none_above_issue
  issue_top_use e i h a b = leb-true _ _ (implies_use _ _ (all_at _ l idle_record e i h) (and_i _ _ a (eq-eqb _ _ b)))

  issue_top_i : Each (λ r. held r ≡ true → r.colour.0 ≡ col g.issue → r.value.0 ≤ val g.issue) l → none_above_issue g l ≡ true
  unfolding none_above_issue
  issue_top_i a =
      all_i _ l idle_record (λ i h. implies_i _ _ (λ e. le-leb _ _ (a i h (and_l _ _ e) (eqb-true _ _ (and_r (held (get_or l i idle_record)) _ e)))))

  valid_new_use : valid_colour_unheld g l ≡ true → col g.issue ≢ col g.valid → 0 < ahead_in B g
      → Each (λ r. held r ≡ true → r.colour.0 ≢ col g.valid) l
  unfolding valid_colour_unheld
  valid_new_use e n p i h a =
      let less : val g.valid < val g.issue =
      by_lt (val g.valid) (val g.issue) (λ z. z) (λ z. absurd (omega (arith, ahead_more B.size g.issue g.valid n z))) in
      eqb-false _ _ (not-true _ (implies_use _ _ (all_at _ l idle_record
      (implies_use _ _ e
      (and_i (leads g.valid g.issue) _ (leads_less g.valid g.issue (λ x. n (sym x)) less) (not_not _ (ne_eqb _ _ n)))) i h) a))

  valid_new_i : val g.issue < val g.valid + B.size
      → (col g.issue ≢ col g.valid → 0 < ahead_in B g → Each (λ r. held r ≡ true → r.colour.0 ≢ col g.valid) l)
      → valid_colour_unheld g l ≡ true
  unfolding valid_colour_unheld
  valid_new_i m f =
      implies_i _ _ (λ e.
      let n : col g.issue ≢ col g.valid = eqb-false _ _ (not-true _ (and_r (leads g.valid g.issue) _ e)) in
      let z : val g.valid < val g.issue = less_leads g.valid g.issue (λ x. n (sym x)) (and_l (leads g.valid g.issue) _ e) in
      all_i _ l idle_record (λ i h. implies_i _ _ (λ q. not_not _ (ne_eqb _ _ (f n (omega (arith, ahead_less B.size g.issue g.valid n z)) i h q)))))

  waited_use : pending_awaited B g l ≡ true → (t : Ticket) → among t (pending_in B g) ≡ true → 0 < count (waits t) l
  unfolding pending_awaited
  waited_use e t a =
      let r = any_at (λ s. same_ticket t s) (pending_in B g) t a in
      let q : t ≡ get_or (pending_in B g) r.0 t = same_true _ _ r.2 in
      subst (λ (x : Ticket). 0 < count (waits x) l) (sym q) (any_count _ l (all_at _ (pending_in B g) t e r.0 r.1))

  waited_i : ((t : Ticket) → among t (pending_in B g) ≡ true → 0 < count (waits t) l) → pending_awaited B g l ≡ true
  unfolding pending_awaited
  waited_i f =
      all_i _ (pending_in B g) g.valid (λ i h. count_any _ l idle_record (f _ (any_i _ (pending_in B g) g.valid i h (same_refl (get_or (pending_in B g) i g.valid) _ refl))))

  others_use : others_number_k B g l ≡ true → count (holds_other (pending_in B g)) l + ahead_in B g ≡ g.k
  unfolding others_number_k
  others_use e = eqb-true _ _ e

  others_i : count (holds_other (pending_in B g)) l + ahead_in B g ≡ g.k → others_number_k B g l ≡ true
  unfolding others_number_k
  others_i e = eq-eqb _ _ e

  own_use : valid_held B g l ≡ true → ahead_in B g ≡ 0 → 0 < count (holds g.valid) l
  unfolding valid_held
  own_use e z = any_count _ l (implies_use _ _ e (eq-eqb _ _ z))

  own_i : (ahead_in B g ≡ 0 → 0 < count (holds g.valid) l) → valid_held B g l ≡ true
  unfolding valid_held
  own_i f = implies_i _ _ (λ z. count_any _ l idle_record (f (eqb-true _ _ z)))

  inside_use : none_pending_inside B g l ≡ true → Each (λ r. inside r ≡ true → among (ticket_of r) (pending_in B g) ≡ false) l
  unfolding none_pending_inside
  inside_use e i h q = not_i _ (λ a. clash _ (and_i _ _ q a) (not-true _ (all_at _ l idle_record e i h)))

  inside_i : Each (λ r. inside r ≡ true → among (ticket_of r) (pending_in B g) ≡ false) l → none_pending_inside B g l ≡ true
  unfolding none_pending_inside
  inside_i f = all_i _ l idle_record (λ i h. not_not _ (not_i _ (λ e. clash _ (and_r (inside (get_or l i idle_record)) _ e) (f i h (and_l _ _ e)))))

  counts_use : counts_right B g l ≡ true → (c : ℕ) → c < 65 → get_or g.counts c 0 ≡ count (holds_other_in (pending_in B g) c) l + count (λ t. eqb (col t) c) (spare_in B g)
  unfolding counts_right count_right
  counts_use e c h = eqb-true _ _ (below_at (count_right B g l) 65 e c h)

  counts_i : ((c : ℕ) → c < 65 → get_or g.counts c 0 ≡ count (holds_other_in (pending_in B g) c) l + count (λ t. eqb (col t) c) (spare_in B g)) → counts_right B g l ≡ true
  unfolding counts_right count_right
  counts_i f = below_i (count_right B g l) 65 (λ c h. eq-eqb _ _ (f c h))

  -- N and k in range, in any block.
  pub sizes_use : sound_in B g l ≡ true → (1 ≤ g.n) × (g.n ≤ 1024) × (1 ≤ g.k) × (g.k ≤ 64) × (year_in_range g.year g.n g.k ≡ true)
  sizes_use e =
      let w = words (parts e).0 in
      (leb-true _ _ w.0, leb-true _ _ w.1, leb-true _ _ w.2, leb-true _ _ w.3, w.6)

  pub sound_in_use : Fits B g.n g.k → sound_in B g l ≡ true → IsSoundIn B g l
  sound_in_use f e =
      let p = parts e in
      let w = words p.0 in
      let i = ticket_use B g.k g.issue w.4 in
      let v = ticket_use B g.k g.valid w.5 in
      record {
        fits = f;
        year_ok = w.6;
        n_low = leb-true _ _ w.0;
        n_high = leb-true _ _ w.1;
        k_low = leb-true _ _ w.2;
        k_high = leb-true _ _ w.3;
        issue_in = i.0;
        issue_col = i.1;
        valid_in_lem = v.0;
        valid_col = v.1;
        above = above_use p.1;
        records = records_use p.2;
        ahead_most = (lead_use p.3).0;
        behind_most = (lead_use p.3).1;
        distinct = distinct_use p.4;
        issue_top = issue_top_use p.5;
        valid_new = valid_new_use p.6;
        waited = waited_use p.7;
        others = others_use p.8;
        own = own_use p.9;
        no_inside = inside_use p.10;
        counted = counts_use p.11;
      }

  sound_in_i : IsSoundIn B g l → sound_in B g l ≡ true
  sound_in_i s =
      parts_i (
        words_i (
          le-leb _ _ s.n_low,
          le-leb _ _ s.n_high,
          le-leb _ _ s.k_low,
          le-leb _ _ s.k_high,
          ticket_i B g.k g.issue s.issue_in s.issue_col,
          ticket_i B g.k g.valid s.valid_in_lem s.valid_col,
          s.year_ok,
        ),
        above_i s.above,
        records_i s.records,
        lead_i s.ahead_most s.behind_most,
        distinct_i s.distinct,
        issue_top_i s.issue_top,
        valid_new_i (omega (arith, s.issue_in.high, s.valid_in_lem.low)) s.valid_new,
        waited_i s.waited,
        others_i s.others,
        own_i s.own,
        inside_i s.no_inside,
        counts_i s.counted,
      )

pub sound_i : {B : Block} (g : Gate) (l : List Record) → IsSoundIn B g l → sound_in B g l ≡ true
sound_i {B} g l s = sound_in_i B g l s

-- In the gate's own block.
pub own_fits : (g : Gate) (l : List Record) → sound_in (block_of g) g l ≡ true → Fits (block_of g) g.n g.k
own_fits g l e = let w = sizes_use (block_of g) g l e in year_fits g.year g.n g.k w.2 w.4

pub sound_use : (g : Gate) (l : List Record) → sound g l ≡ true → IsSound g l
sound_use g l e = let t = and_l (sound_in (block_of g) g l) _ e in sound_in_use (block_of g) g l (own_fits g l t) t
