-- The verdict: what is sound passes every test, what passes every test is sound, and so each return of the check answers `sound g l`.
--
-- Main statements: `passes_words`, `passes_lead`, `passes_each`, `passes_once`, `passes_counts`, `passes_others` (a sound gate
-- passes each test), `passed_sound` (what passes them all is sound), and a law for each return of `list_is_sound` and `is_sound`.
use Prim.Native.Nat.{suc, ℕ, ◌+◌, ◌-◌, ◌<◌, ◌≤◌}
use mathlib.Core.Path.{ap, refl, subst, sym, ◌∙◌, ◌≡◌}
use mathlib.Core.Bool.{Bool, cond, false, true, true≢false, ◌&&◌}
use mathlib.Core.List.{List, map}
use mathlib.Core.Logic.{◌≢◌}
use native.Mathlib.Omega.{arith}
use lib.ListN.{drop, get_or, length, length-drop, length-replicate, replicate, take}
use lib.Seq.{get_or-take, length-take-le, take_all}
use lib.Dec.{eqb, leb}
use borrow.Author.Tests.{eq-eqb, eqb-false, eqb-true, le-leb, ne_eqb, not-true}
use Rattle.model.specs.declared.Gate.{Gate}
use Rattle.model.specs.declared.Record.{Record}
use Rattle.model.specs.declared.Ticket.{Ticket}
use Rattle.ranges.specs.declared.lead.Lead.{Lead}
use Rattle.model.specs.Calls.{idle_record}
use Rattle.model.specs.Lists.{all, all_below, count}
use Rattle.model.specs.Sound.{ahead_of, among, held, holds, holds_other, inside, lead_in_range, pending, pending_in, slots_sound, sound, sound_in, spare_in, ticket_of, words_in_range}
use Rattle.model.specs.Steps.{block_of, col, leads, val}
use Rattle.ranges.specs.Lead.{LeadBounds, lead_of, leads_anew, pending_of}
use Rattle.tally.specs.Counts.{count_is, count_sum, count_test, spare_within}
use Rattle.tally.specs.Bins.{bin_of, idle_bin, keeps_clauses, record_sound}
use Rattle.soundness.specs.Pass.{IsRead, PassAsks}
use Rattle.soundness.specs.Others.{code_of}
use Rattle.std.proofs.lemmas.List.FromFn.{get_or-map-range_with_len}
use Rattle.std.proofs.lemmas.List.{get_or-drop}
use Rattle.std.specs.List.{range_with_len}
use Rattle.model.proofs.Blocks.{among_at, among_i, not_after, place}
use Rattle.model.proofs.Counting.{all_at, all_i, below_at, below_i, count_find, count_none, count_pos, count_same}
use Rattle.model.proofs.IsSound.{Each, IsSound, RecordInRange, record_i, sound_i, sound_use}
use Rattle.model.proofs.Logic.{and_i, and_l, and_r, bool_ext, by_bool, by_lt, clash, implies_i, not_i, not_not}
use Rattle.model.proofs.Moves.{ahead_less, ahead_more, leads_less, less_leads}
use Rattle.model.proofs.RecordTests.{held_use, holds_held, holds_is, holds_other_in, other_not, waits, waits_i}
use Rattle.model.proofs.SoundLaws.{ahead_lt, held_once, own_apart}
use Rattle.ranges.proofs.LeadLaws.{lead_bounds, lead_i, lead_test, lead_use}
use Rattle.ranges.proofs.RangeLaws.{WordsInRange, words_fit, words_i, words_use}
use Rattle.ranges.proofs.Tests.{Tells, answer_no}
use Rattle.tally.proofs.CountLaws.{spare_count}
use Rattle.tally.proofs.RecordLaws.{keeps_i, record_anew, record_inside, record_issue, record_range}
use Rattle.tally.proofs.BinLaws.{Counted, bin_holds, colour_counted, place_counted, place_of, zeros}
use Rattle.soundness.proofs.Loops.{count_take_le}
use Rattle.soundness.proofs.OtherLaws.{OthersRight, code_count, holds_code}
use Rattle.soundness.proofs.PassLaws.{Passed, Turn, all_counted, all_sound, asks_bounds, turn_more}

-- The words of a sound gate.
pub words_of : {g : Gate} {l : List Record} → IsSound g l → WordsInRange g
words_of s =
    record {
      n_low = s.n_low;
      n_high = s.n_high;
      k_low = s.k_low;
      k_high = s.k_high;
      year_ok = s.year_ok;
      issue_in = s.issue_in;
      issue_col = s.issue_col;
      valid_in_lem = s.valid_in_lem;
      valid_col = s.valid_col;
    }

-- The colours of records that are in range, and how many hold a ticket that is none of the places after VALID, told by its code.
module _ (g : Gate) (l : List Record) where
  colours_of : Each (RecordInRange (block_of g) g.k) l → Each (λ r. r.colour.0 ≤ (lead_of g).k) l
  unfolding lead_of
  colours_of f i h = (f i h).colour_ok

  code_same : g.k ≤ 64 → Each (RecordInRange (block_of g) g.k) l → (t : Ticket) → col t ≤ 64 → among t (pending_of (lead_of g)) ≡ false
      → count (holds t) l ≡ count (holds_code (lead_of g) (code_of (val t) (col t))) l
  unfolding lead_of
  code_same h f = code_count (lead_of g) l h (colours_of f)

-- What is sound passes every test.
module _ (g : Gate) (l : List Record) (s : IsSound g l) where
  passes_words : words_in_range g ≡ true
  passes_words = words_i g (words_of s)

  passes_lead : lead_in_range g ≡ true
  passes_lead = lead_i g s.ahead_most s.behind_most

  in_bounds : LeadBounds (lead_of g)
  in_bounds = lead_bounds g (words_of s) s.ahead_most s.behind_most

  each_at : (i : ℕ) → i < length l → record_sound (lead_of g) (get_or l i idle_record) ≡ true
  unfolding record_sound lead_of pending_of pending_in
  each_at i h =
      let r = get_or l i idle_record in
      and_i (keeps_clauses (lead_of g) r) _
      (keeps_i (lead_of g) r
      (record_i (block_of g) g.k r (s.records i h))
      (implies_i (held r && eqb r.colour.0 (col g.issue)) _ (λ e. le-leb _ _ (s.issue_top i h (and_l (held r) _ e) (eqb-true _ _ (and_r (held r) _ e)))))
      (implies_i (leads_anew g.issue g.valid) _ (λ e.
      let n : col g.issue ≢ col g.valid = eqb-false _ _ (not-true _ (and_r (leads g.valid g.issue) _ e)) in
      let z : val g.valid < val g.issue = less_leads g.valid g.issue (λ x. n (sym x)) (and_l (leads g.valid g.issue) _ e) in
      implies_i (held r) _ (λ p. not_not _ (ne_eqb _ _ (s.valid_new n (omega (arith, ahead_less (block_of g).size g.issue g.valid n z, s.issue_in.high, s.valid_in_lem.low)) i h p))))))
      (not_not _ (not_i _ (λ e. clash _ (and_r (inside r) _ e) (s.no_inside i h (and_l (inside r) _ e)))))

  passes_each : all (record_sound (lead_of g)) l ≡ true
  passes_each = all_i (record_sound (lead_of g)) l idle_record each_at

  colours_in : Each (λ r. r.colour.0 ≤ (lead_of g).k) l
  colours_in = colours_of g l s.records

  passes_once : (j : ℕ) → j < (lead_of g).behind → count (holds (place_of (lead_of g) (suc j))) l ≡ 1
  unfolding lead_of pending_in
  passes_once j h =
      let t = place (block_of g) (col g.issue) g.valid (suc j) in
      held_once g l s t (among_i (block_of g) (col g.issue) g.valid _ t j h refl)

  -- How many other tickets of a colour are held.
  abbrev others_in : ℕ → ℕ
  others_in c = count (holds_other_in (pending_of (lead_of g)) c) l

  passes_counts : (sl : List ℕ) → ((c : ℕ) → c < 65 → get_or sl c 0 ≡ others_in c) → all_below (count_is (lead_of g) g.counts sl) 65 ≡ true
  unfolding count_test lead_of pending_in pending_of spare_in
  passes_counts sl q =
      below_i _ 65 (λ c h.
      eq-eqb (get_or g.counts c 0) (count_sum (col g.issue) (spare_within (lead_of g)) (col g.valid) ((lead_of g).ahead - spare_within (lead_of g)) sl c)
      (omega (arith, s.counted c h, q c h, spare_count (lead_of g) c s.issue_in.high (ahead_lt g l s))))

  passes_short : all_below (count_is (lead_of g) g.counts (map others_in (range_with_len 0 65))) 65 ≡ true
  passes_short = passes_counts _ (λ c h. get_or-map-range_with_len others_in 0 65 c c 0 h (omega arith))

  passes_others : OthersRight (lead_of g) l
  unfolding lead_of pending_in pending_of holds_code
  passes_others =
      let w = lead_of g in
      record {
        number = s.others;
        once = λ x. by_lt 0 (count (holds_code w x) l)
            (λ p.
            let f = count_find (holds_code w x) l idle_record p in
            let r = get_or l f.0 idle_record in
            let a : holds_other (pending_of w) r ≡ true = and_l (holds_other (pending_of w) r) _ f.2 in
            let e : code_of r.value.0 r.colour.0 ≡ x = eqb-true _ _ (and_r (holds_other (pending_of w) r) _ f.2) in
            let c = code_same g l s.k_high s.records (ticket_of r) (omega (arith, (s.records f.0 f.1).colour_ok, s.k_high)) (other_not r (pending_of w) a) in
            subst (λ (y : ℕ). count (holds_code w y) l ≤ 1) e (subst (λ (n : ℕ). n ≤ 1) c (s.distinct (ticket_of r))))
            (λ p. omega arith);
        own = λ z. subst (λ (n : ℕ). 0 < n) (code_same g l s.k_high s.records g.valid (omega (arith, s.valid_col, s.k_high)) (own_apart g l s)) (s.own z);
      }

-- What passes every test is sound.
module _ (g : Gate) (l : List Record) (sl : List ℕ) (w : WordsInRange g) (lead : lead_in_range g ≡ true)
    (each : all (record_sound (lead_of g)) l ≡ true) (q : Counted (lead_of g) l sl)
    (once : (j : ℕ) → j < (lead_of g).behind → count (holds (place_of (lead_of g) (suc j))) l ≡ 1)
    (counts : all_below (count_is (lead_of g) g.counts sl) 65 ≡ true) (a : OthersRight (lead_of g) l) where
  h : LeadBounds (lead_of g)
  h = lead_bounds g w (lead_use g lead).0 (lead_use g lead).1

  is_at : (i : ℕ) → i < length l → record_sound (lead_of g) (get_or l i idle_record) ≡ true
  is_at i z = all_at (record_sound (lead_of g)) l idle_record each i z

  range_at : Each (RecordInRange (block_of g) g.k) l
  unfolding lead_of
  range_at i z = record_range (lead_of g) _ (is_at i z)

  colours_at : Each (λ r. r.colour.0 ≤ (lead_of g).k) l
  colours_at = colours_of g l range_at

  pending_once : (t : Ticket) → among t (pending g) ≡ true → count (holds t) l ≡ 1
  unfolding pending_in lead_of
  pending_once t e =
      let r = among_at (block_of g) (col g.issue) g.valid _ t e in
      subst (λ (x : Ticket). count (holds x) l ≡ 1) (sym r.2) (once r.0 r.1)

  passed_distinct : (t : Ticket) → count (holds t) l ≤ 1
  unfolding pending_in pending_of lead_of
  passed_distinct t =
      by_bool (among t (pending g))
      (λ e. omega (arith, pending_once t e))
      (λ e. by_lt 0 (count (holds t) l)
      (λ p.
      let f = count_find (holds t) l idle_record p in
      let r = get_or l f.0 idle_record in
      let z : col t ≡ r.colour.0 = ap col (holds_is r t f.2) in
      subst (λ (n : ℕ). n ≤ 1) (sym (code_same g l w.k_high range_at t (omega (arith, (range_at f.0 f.1).colour_ok, w.k_high)) e)) (a.once (code_of (val t) (col t))))
      (λ p. omega arith))

  passed_waited : (t : Ticket) → among t (pending g) ≡ true → 0 < count (waits t) l
  unfolding pending_in pending_of lead_of
  passed_waited t e =
      let f = count_find (holds t) l idle_record (omega (arith, pending_once t e)) in
      let r = get_or l f.0 idle_record in
      let t-is : t ≡ ticket_of r = holds_is r t f.2 in
      let n : r.region ≢ 0 = held_use r (holds_held r t f.2) in
      let two : r.region ≢ 2 = λ z. clash _ (subst (λ (x : Ticket). among x (pending g) ≡ true) t-is e) (record_inside (lead_of g) r (is_at f.0 f.1) (eq-eqb r.region 2 z)) in
      let b = (range_at f.0 f.1).region_ok in
      count_pos (waits t) l f.0 idle_record f.1 (waits_i r t (omega (arith, n, two)) t-is)

  -- VALID's own ticket is none of the places after it.
  own_not_after : among g.valid (pending_of (lead_of g)) ≡ false
  unfolding lead_of pending_of
  own_not_after = not_after (block_of g) (col g.issue) g.valid _ w.valid_in_lem.high h.behind_below

  -- VALID leads in a colour of its own where it is ahead in another colour.
  anew_ahead : col g.issue ≢ col g.valid → 0 < ahead_of g → leads_anew g.issue g.valid ≡ true
  anew_ahead n p =
      let less : val g.valid < val g.issue =
      by_lt (val g.valid) (val g.issue) (λ y. y) (λ y. absurd (omega (arith, ahead_more (block_of g).size g.issue g.valid n y))) in
      and_i (leads g.valid g.issue) _ (leads_less g.valid g.issue (λ x. n (sym x)) less) (not_not _ (ne_eqb _ _ n))

  -- What each count is: the records in its bin, and its spare places.
  count_at : (c : ℕ) → c < 65
      → get_or g.counts c 0 ≡ count (holds_other_in (pending_of (lead_of g)) c) l + cond (eqb (col g.issue) c) (spare_within (lead_of g)) 0
      + cond (eqb (col g.valid) c) ((lead_of g).ahead - spare_within (lead_of g)) 0
  unfolding count_test lead_of
  count_at c z =
      omega (arith, eqb-true (get_or g.counts c 0) _ (below_at _ 65 counts c z), colour_counted (lead_of g) h l sl colours_at q c z)

  -- No ticket of a colour above k is held, and none is a spare place.
  zero_above : (c : ℕ) → c < 65 → g.k < c → get_or g.counts c 0 ≡ 0
  zero_above c z p =
      let none : count (holds_other_in (pending_of (lead_of g)) c) l ≡ 0 =
      count_none _ l idle_record (λ i y. not_i _ (λ e.
      let r = get_or l i idle_record in
      omega (arith, eqb-true r.colour.0 c (and_r (holds_other (pending_of (lead_of g)) r) _ e), (range_at i y).colour_ok))) in
      let near : cond (eqb (col g.issue) c) (spare_within (lead_of g)) 0 ≡ 0 = simp (ne_eqb (col g.issue) c (omega (arith, w.issue_col))) in
      let far : cond (eqb (col g.valid) c) ((lead_of g).ahead - spare_within (lead_of g)) 0 ≡ 0 = simp (ne_eqb (col g.valid) c (omega (arith, w.valid_col))) in
      omega (arith, count_at c z, none, near, far)

  passed_sound : IsSound g l
  unfolding pending_in pending_of lead_of spare_in
  passed_sound =
      record {
        fits = words_fit g w;
        year_ok = w.year_ok;
        n_low = w.n_low;
        n_high = w.n_high;
        k_low = w.k_low;
        k_high = w.k_high;
        issue_in = w.issue_in;
        issue_col = w.issue_col;
        valid_in_lem = w.valid_in_lem;
        valid_col = w.valid_col;
        above = zero_above;
        records = range_at;
        ahead_most = (lead_use g lead).0;
        behind_most = (lead_use g lead).1;
        distinct = passed_distinct;
        issue_top = λ i z. record_issue (lead_of g) _ (is_at i z);
        valid_new = λ n p i z. record_anew (lead_of g) _ (is_at i z) (anew_ahead n p);
        waited = passed_waited;
        others = a.number;
        own = λ z. subst (λ (n : ℕ). 0 < n) (sym (code_same g l w.k_high range_at g.valid (omega (arith, w.valid_col, w.k_high)) own_not_after)) (a.own z);
        no_inside = λ i z. record_inside (lead_of g) _ (is_at i z);
        counted = λ c z.
            let m : ahead_of g < (block_of g).size = omega (arith, (lead_use g lead).0, (words_fit g w).above_k) in
            omega (arith, count_at c z, spare_count (lead_of g) c w.issue_in.high m);
      }

-- The returns of `is_sound` before the pass: b is the answer of the test that fails.
module _ (g : Gate) (l : List Record) (b : Bool) (n : b ≡ false) where
  pub unsound_words : b ≡ words_in_range g → false ≡ sound g l
  unsound_words e = answer_no _ (λ s. clash b (e ∙ passes_words g l (sound_use g l s)) n)

  pub unsound_lead : (w : Lead) → w ≡ lead_of g → b ≡ (leb w.ahead w.k && leb w.behind (g.n - w.k)) → false ≡ sound g l
  unsound_lead w ew e = answer_no _ (λ s. clash b (e ∙ lead_test g w ew ∙ passes_lead g l (sound_use g l s)) n)

-- What is read of words that pass the tests.
pub is_read : (g : Gate) (w : Lead) (a c : Bool) → w ≡ lead_of g → a ≡ words_in_range g → a ≡ true → c ≡ (leb w.ahead w.k && leb w.behind (g.n - w.k)) → c ≡ true
    → IsRead g w
is_read g w a c ew ea ha ec hc = record { read = ew; words = sym ea ∙ ha; lead = sym (ec ∙ lead_test g w ew) ∙ hc }

-- Then there are no more than 64 others, and no more places after VALID than there are most bins for.
module _ {g : Gate} {w : Lead} (r : IsRead g w) where
  read_bounds : LeadBounds w
  read_bounds =
      let l = lead_use g r.lead in
      subst LeadBounds (sym r.read) (lead_bounds g (words_use g r.words) l.0 l.1)

  pub read_others : w.k - w.ahead ≤ 64
  read_others = omega (arith, read_bounds.k_most)

  -- What the pass asks: n empty bins are enough.
  pub pass_asks : (n : ℕ) → idle_bin + w.behind < n → PassAsks g w (replicate n 0)
  pass_asks n h = record { read = r.read; words = r.words; lead = r.lead; empty = zeros n; room = omega (arith, length-replicate {A = ℕ} n 0) }

  pub room_most : idle_bin + w.behind < 1090
  room_most = omega (arith, read_bounds.behind_below, read_bounds.last_most)

-- The bins of the n places after VALID, as the code takes them.
pub places_of : {b : Bool} (s : List ℕ) {n m : ℕ} → m ≡ n → b ≡ all (λ x. eqb x 1) (take m (take (length s - (idle_bin + 1)) (drop (idle_bin + 1) s)))
    → b ≡ all (λ x. eqb x 1) (take n (drop (idle_bin + 1) s))
places_of s {n} e h =
    let t : take (length s - (idle_bin + 1)) (drop (idle_bin + 1) s) ≡ drop (idle_bin + 1) s = take_all _ _ (omega (arith, length-drop (idle_bin + 1) s)) in
    h ∙ ap (λ (x : ℕ). all (λ y. eqb y 1) (take x (take (length s - (idle_bin + 1)) (drop (idle_bin + 1) s)))) e ∙ ap (λ (l : List ℕ). all (λ y. eqb y 1) (take n l)) t

-- The returns of the pass.
module _ {g : Gate} {w : Lead} {s₀ : List ℕ} (q : PassAsks g w s₀) (l : List Record) where
  pub unsound_record : {i : ℕ} {r : Record} → i < length l → r ≡ get_or l i idle_record → record_sound w r ≡ false → false ≡ sound g l
  unsound_record {i} h er f =
      answer_no _ (λ s.
      let e : record_sound (lead_of g) (get_or l i idle_record) ≡ true =
      all_at (record_sound (lead_of g)) l idle_record (passes_each g l (sound_use g l s)) i h in
      true≢false (sym e ∙ ap (λ (x : Lead). record_sound x (get_or l i idle_record)) (sym q.read) ∙ ap (record_sound w) (sym er) ∙ f))

  -- Some count has fewer than its spare places, whatever the bins have.
  pub unsound_short : ((s : List ℕ) → false ≡ all_below (count_is w g.counts s) 65) → false ≡ sound g l
  unsound_short f =
      answer_no _ (λ z.
      let n = subst (λ (x : Lead). (s : List ℕ) → false ≡ all_below (count_is x g.counts s) 65) q.read f in
      true≢false (sym (passes_short g l (sound_use g l z)) ∙ sym (n _)))

  others_g : sound g l ≡ true → OthersRight w l
  others_g s = subst (λ (x : Lead). OthersRight x l) (sym q.read) (passes_others g l (sound_use g l s))

  pub unsound_others : Tells false (OthersRight w l) → false ≡ sound g l
  unsound_others t = answer_no _ (λ s. true≢false (sym (t.heeds (others_g s))))

  -- A place after VALID that a record before this one holds: d is its bin.
  pub unsound_twice : {s kept : List ℕ} {i d at : ℕ} → Turn w l i d → Passed w l s kept i → at ≡ d → idle_bin < d → get_or s at 0 ≢ 0 → false ≡ sound g l
  unsound_twice {s} {i = i} {d} t p ea h n =
      answer_no _ (λ z.
      let f : get_or s d 0 ≢ 0 = λ x. n (ap (λ (y : ℕ). get_or s y 0) ea ∙ x) in
      let u = sound_use g l z in
      let j = d - (idle_bin + 1) in
      let e : idle_bin + suc j ≡ d = omega arith in
      let b : j < w.behind = omega (arith, t.has.room) in
      let c : Each (λ r. r.colour.0 ≤ w.k) l = λ x y. subst (λ (v : Lead). (get_or l x idle_record).colour.0 ≤ v.k) (sym q.read) (colours_in g l u x y) in
      let o : count (λ r. eqb (bin_of w r) d) l ≡ count (holds (place_of w (suc j))) l =
      ap (λ (x : ℕ). count (λ r. eqb (bin_of w r) x) l) (sym e) ∙ count_same _ _ l idle_record (λ x y. bin_holds w _ t.bounds (c x y) j b) in
      omega (arith, f, p.counted.bin d (λ x. omega arith), turn_more t, count_take_le (λ r. eqb (bin_of w r) d) l (i + 1), o, u.distinct (place_of w (suc j))))

  module _ {s kept : List ℕ} {i : ℕ} (p : Passed w l s kept i) (h : length l ≤ i) where
    counted_g : Counted (lead_of g) l s
    counted_g = subst (λ (x : Lead). Counted x l s) q.read (all_counted q p h)

    bounds_g : LeadBounds (lead_of g)
    bounds_g = subst LeadBounds q.read (asks_bounds q)

    behind_g : w.behind ≡ (lead_of g).behind
    behind_g = ap (λ (x : Lead). x.behind) q.read

    -- The bins of the places after VALID.
    abbrev places : List ℕ
    places = take w.behind (drop (idle_bin + 1) s)

    places_long : length places ≡ w.behind
    places_long = length-take-le w.behind (drop (idle_bin + 1) s) (omega (arith, length-drop (idle_bin + 1) s, p.counted.room))

    place_bin : (j : ℕ) → j < w.behind → get_or places j 0 ≡ get_or s (idle_bin + suc j) 0
    place_bin j z = get_or-take w.behind (drop (idle_bin + 1) s) j 0 z ∙ get_or-drop (idle_bin + 1) s j 0 ∙ ap (λ (x : ℕ). get_or s x 0) (omega arith)

    pub unsound_unheld : {b : Bool} → b ≡ all (λ x. eqb x 1) places → b ≡ false → false ≡ sound g l
    unsound_unheld {b} e f =
        answer_no _ (λ z.
        let u = sound_use g l z in
        clash b (e ∙ all_i (λ x. eqb x 1) places 0 (λ j y.
        let m : j < w.behind = omega (arith, y, places_long) in
        eq-eqb (get_or places j 0) 1
        (place_bin j m ∙ place_counted (lead_of g) bounds_g l s (colours_in g l u) counted_g j (omega (arith, m, behind_g)) ∙ passes_once g l u j (omega (arith, m, behind_g))))) f)

    pub unsound_counts : (b : Bool) → b ≡ all_below (count_is w g.counts s) 65 → b ≡ false → false ≡ sound g l
    unsound_counts b e f =
        answer_no _ (λ z. clash b (e ∙ ap (λ (x : Lead). all_below (count_is x g.counts s) 65) q.read ∙ passes_counts g l (sound_use g l z) s (colour_counted (lead_of g) (in_bounds g l (sound_use g l z)) l s (colours_in g l (sound_use g l z)) counted_g)) f)

    -- Where each bin of a place has one record, each place is held once.
    each_g : all (record_sound (lead_of g)) l ≡ true
    each_g = subst (λ (v : Lead). all (record_sound v) l ≡ true) q.read (all_sound q p h)

    once_g : all (λ x. eqb x 1) places ≡ true → (j : ℕ) → j < (lead_of g).behind → count (holds (place_of (lead_of g) (suc j))) l ≡ 1
    once_g e j z =
        let c : Each (λ r. r.colour.0 ≤ (lead_of g).k) l = λ x y. (record_range (lead_of g) _ (all_at (record_sound (lead_of g)) l idle_record each_g x y)).colour_ok in
        let m : j < w.behind = omega (arith, z, behind_g) in
        sym (place_counted (lead_of g) bounds_g l s c counted_g j z) ∙ sym (place_bin j m)
        ∙ eqb-true (get_or places j 0) 1 (all_at (λ x. eqb x 1) places 0 e j (omega (arith, m, places_long)))

    -- The last return: all other tests are passed, and b tells of the other tickets. y is the answer on counts.
    pub verdict : {b x : Bool} (y : Bool) → slots_sound g l ≡ true → x ≡ all (λ x. eqb x 1) places → x ≡ true → y ≡ all_below (count_is w g.counts s) 65 → y ≡ true
        → Tells b (OthersRight w l) → b ≡ sound g l
    verdict {b} y slots ex hx ey hy t =
        bool_ext b (sound g l)
        (λ e. and_i (sound_in (block_of g) g l) _ (sound_i g l (passed_sound g l s (words_use g q.words) q.lead each_g counted_g (once_g (sym ex ∙ hx))
        (subst (λ (v : Lead). all_below (count_is v g.counts s) 65 ≡ true) q.read (sym ey ∙ hy))
        (subst (λ (v : Lead). OthersRight v l) q.read (t.says e)))) slots)
        (λ e. t.heeds (others_g e))
