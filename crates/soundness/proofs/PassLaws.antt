-- The pass over the list: what it knows after i records, and what each turn adds.
--
-- Main statements: `Passed` (the loop's invariant), `pass_start`, `pass_place`, `pass_idle` and `pass_other` (a turn), and after the last
-- turn `all_sound`, `all_counted`, `others_ahead` and `others_own`.
use Prim.Native.Nat.{zero-le, ℕ, ◌+◌, ◌-◌, ◌<◌, ◌≤◌}
use mathlib.Core.Path.{ap, ap₂, refl, subst, sym, ◌∙◌, ◌≡◌}
use mathlib.Core.Bool.{Bool, false, true, ◌&&◌}
use mathlib.Core.List.{List, [], ◌++◌, ◌∷◌}
use mathlib.Core.Logic.{◌≢◌}
use native.Mathlib.Omega.{arith}
use lib.ListN.{get_or, length, length-append, length-set, set, take}
use lib.Seq.{get_or-set_other, get_or-set_same, take_all}
use lib.Dec.{eqb}
use borrow.Author.Tests.{eq-eqb, eqb-true, ne_eqb, not-false, not-true}
use Rattle.model.specs.declared.Gate.{Gate}
use Rattle.model.specs.declared.Record.{Record}
use Rattle.ranges.specs.declared.lead.Lead.{Lead}
use Rattle.tally.specs.declared.record.Class.{Class}
use Rattle.tally.specs.declared.record.Class.TheVariants.{Place}
use Rattle.model.specs.Calls.{idle_record}
use Rattle.model.specs.Lists.{all, any, count, one_if}
use Rattle.model.specs.Sound.{holds_other}
use Rattle.model.specs.Steps.{col, val}
use Rattle.ranges.specs.Lead.{LeadBounds, lead_of, pending_of}
use Rattle.tally.specs.Bins.{InBin, IsClass, bin_number, bin_of, idle_bin, place_number, record_sound}
use Rattle.soundness.specs.Pass.{PassAsks}
use Rattle.soundness.specs.Others.{Inserted, code_of}
use Rattle.model.proofs.Counting.{all_at, any_count, count_any, count_append, count_most}
use Rattle.model.proofs.Logic.{by_eq, by_lt, clash, not_i}
use Rattle.ranges.proofs.LeadLaws.{lead_bounds, lead_use}
use Rattle.ranges.proofs.RangeLaws.{words_use}
use Rattle.ranges.proofs.Tests.{Tells, tells_no}
use Rattle.tally.proofs.BinLaws.{Counted, low_other, other_low}
use Rattle.tally.proofs.RecordLaws.{record_range}
use Rattle.soundness.proofs.Loops.{all_next, count_next, count_take_le}
use Rattle.soundness.proofs.OtherLaws.{OthersRight, holds_code}

-- What the pass asks of its caller gives the bounds, and few plugins.
module _ {g : Gate} {w : Lead} {s : List ℕ} (q : PassAsks g w s) where
  pub asks_bounds : LeadBounds w
  asks_bounds =
      let l = lead_use g q.lead in
      subst LeadBounds (sym q.read) (lead_bounds g (words_use g q.words) l.0 l.1)

  pub asks_k : w.k ≡ g.k
  unfolding lead_of
  asks_k = ap (λ (x : Lead). x.k) q.read

  pub asks_k_low : 1 ≤ w.k
  asks_k_low = omega (arith, asks_k, (words_use g q.words).k_low)

-- The codes kept after i records are those of the other tickets held by them, and no two are equal.
pub record Kept (w : Lead) (l : List Record) (i : ℕ) (kept : List ℕ) : Type 0 where
  pub many : length kept ≡ count (holds_other (pending_of w)) (take i l)
  pub same : (x : ℕ) → count (λ y. eqb y x) kept ≡ count (holds_code w x) (take i l)
  pub once : (x : ℕ) → count (holds_code w x) (take i l) ≤ 1

-- After i records: each of them breaks no clause by itself, s counts them by their bins, and the other tickets are kept, no more of them than
-- there may be.
pub record Passed (w : Lead) (l : List Record) (s kept : List ℕ) (i : ℕ) : Type 0 where
  pub each : all (record_sound w) (take i l) ≡ true
  pub counted : Counted w (take i l) s
  pub few : length kept ≤ w.k - w.ahead
  pub others : Kept w l i kept

pub pass_start : {g : Gate} {w : Lead} {s : List ℕ} → PassAsks g w s → (l : List Record) → Passed w l s [] 0
unfolding all any count
pass_start q l =
    record {
      each = refl;
      counted = record { room = q.room; bin = λ x n. q.empty x };
      few = omega arith;
      others = record { many = refl; same = λ x. refl; once = λ x. zero-le };
    }

-- The invariant for equal values.
pub pass_to : {w : Lead} {l : List Record} {s s' kept kept' : List ℕ} {i : ℕ} → s' ≡ s → kept' ≡ kept → Passed w l s kept i → Passed w l s' kept' i
pass_to {w} {l} {s} {s'} {kept} {kept'} {i} a e z =
    subst (λ (x : List ℕ). Passed w l x kept' i) (sym a) (subst (λ (x : List ℕ). Passed w l s x i) (sym e) z)

-- A loop over the numbers below e, where that and a list's length m are n.
pub in_list : {m n e i : ℕ} → m ≡ n → e ≡ n → i < e → i < m
in_list a b h = omega arith

pub past_list : {m n e i : ℕ} → m ≡ n → e ≡ n → e ≤ i → m ≤ i
past_list a b h = omega arith

-- A turn: the record i breaks no clause by itself and has the bin d.
pub record Turn (w : Lead) (l : List Record) (i d : ℕ) : Type 0 where
  pub bounds : LeadBounds w
  pub within : i < length l
  pub has : InBin w (get_or l i idle_record) d

pub turn_i : {g : Gate} {w : Lead} {s : List ℕ} → PassAsks g w s → {l : List Record} {i : ℕ} {r : Record} {x y : Class} → i < length l → r ≡ get_or l i idle_record
    → IsClass w r x → x ≡ y → Turn w l i (bin_number (get_or l i idle_record).colour.0 y)
turn_i {w = w} q {r = r} {x} {y} h er c e =
    record {
      bounds = asks_bounds q;
      within = h;
      has = (subst (λ (u : Record). IsClass w u y) er (subst (λ (z : Class). IsClass w r z) e c)).binned;
    }

-- The bin of a place, and of another ticket.
pub place_after : {w : Lead} {r : Record} {x : Class} (j : ℕ) → IsClass w r x → x ≡ Place j → idle_bin < idle_bin + j
place_after j s e = omega (arith, s.first, ap place_number e)

pub other_below : {w : Lead} {l : List Record} {i : ℕ} → Turn w l i (get_or l i idle_record).colour.0 → (get_or l i idle_record).colour.0 < idle_bin
other_below {w} t = omega (arith, (record_range w _ t.has.keeps).colour_ok, t.bounds.k_most)

count_one : (p : ℕ → Bool) (x : ℕ) → count p (x ∷ []) ≡ one_if (p x)
unfolding count
count_one p x = omega arith

module _ {w : Lead} {l : List Record} {i d : ℕ} (t : Turn w l i d) where
  abbrev r : Record
  r = get_or l i idle_record

  abbrev code : ℕ
  code = code_of r.value.0 r.colour.0

  bin_is_lem : bin_of w r ≡ d
  bin_is_lem = sym t.has.bin

  more : (p : Record → Bool) → count p (take (i + 1) l) ≡ count p (take i l) + one_if (p r)
  more p = count_next p l idle_record i t.within

  -- One more record with this bin.
  pub turn_more : count (λ y. eqb (bin_of w y) d) (take (i + 1) l) ≡ count (λ y. eqb (bin_of w y) d) (take i l) + 1
  turn_more = omega (arith, more (λ y. eqb (bin_of w y) d), ap one_if (eq-eqb (bin_of w r) d bin_is_lem))

  each_next : all (record_sound w) (take i l) ≡ true → all (record_sound w) (take (i + 1) l) ≡ true
  each_next a = all_next (record_sound w) l idle_record i t.within a t.has.keeps

  colour_most : r.colour.0 ≤ w.k
  colour_most = (record_range w r t.has.keeps).colour_ok

  -- One more record in its bin, and an idle one in none.
  counted_next : (s : List ℕ) (v : ℕ) → d ≢ idle_bin → v ≡ get_or s d 0 + 1 → Counted w (take i l) s → Counted w (take (i + 1) l) (set s d v)
  counted_next s v nd ev z =
      record {
        room = omega (arith, length-set s d v, z.room);
        bin = λ x nx.
            let n = more (λ y. eqb (bin_of w y) x) in
            by_eq d x
            (λ g.
            let o = ap one_if (eq-eqb (bin_of w r) x (bin_is_lem ∙ g)) in
            ap (λ (y : ℕ). get_or (set s d v) y 0) (sym g) ∙ get_or-set_same s d v 0 (omega (arith, z.room, t.has.room))
            ∙ omega (arith, n, o, ev, z.bin x nx, ap (λ (y : ℕ). get_or s y 0) g))
            (λ g.
            let o = ap one_if (ne_eqb (bin_of w r) x (λ y. g (sym bin_is_lem ∙ y))) in
            get_or-set_other s d x v 0 (λ y. g (sym y)) ∙ omega (arith, n, o, z.bin x nx));
      }

  counted_idle : (s : List ℕ) → d ≡ idle_bin → Counted w (take i l) s → Counted w (take (i + 1) l) s
  counted_idle s ed z =
      record {
        room = z.room;
        bin = λ x nx.
            omega (arith, more (λ y. eqb (bin_of w y) x), ap one_if (ne_eqb (bin_of w r) x (λ y. nx (sym y ∙ bin_is_lem ∙ ed))), z.bin x nx);
      }

  code_is : (y : ℕ) → holds_code w y r ≡ (holds_other (pending_of w) r && eqb code y)
  unfolding holds_code
  code_is y = refl

  -- The record holds no other ticket.
  module _ (high : idle_bin ≤ d) where
    not_other : holds_other (pending_of w) r ≡ false
    not_other = not_i _ (λ a. omega (arith, other_low w r t.bounds colour_most a, bin_is_lem))

    kept_next : {kept : List ℕ} → Kept w l i kept → Kept w l (i + 1) kept
    kept_next z =
        let c : (x : ℕ) → count (holds_code w x) (take (i + 1) l) ≡ count (holds_code w x) (take i l) =
        λ x. omega (arith, more (holds_code w x), ap one_if (code_is x ∙ ap (λ (b : Bool). b && eqb code x) not_other)) in
        record {
          many = omega (arith, z.many, more (holds_other (pending_of w)), ap one_if not_other);
          same = λ x. z.same x ∙ sym (c x);
          once = λ x. omega (arith, z.once x, c x);
        }

  -- It is idle, or it holds a place that no record before it holds.
  pub pass_idle : {s kept : List ℕ} → d ≡ idle_bin → Passed w l s kept i → Passed w l s kept (i + 1)
  pass_idle {s} e p =
      record {
        each = each_next p.each;
        counted = counted_idle s e p.counted;
        few = p.few;
        others = kept_next (omega arith) p.others;
      }

  pub pass_place : {s kept : List ℕ} {at : ℕ} → at ≡ d → idle_bin < d → get_or s at 0 ≡ 0 → Passed w l s kept i → Passed w l (set s at 1) kept (i + 1)
  pass_place {s} {kept} {at} ea h f p =
      let e : get_or s d 0 ≡ 0 = ap (λ (x : ℕ). get_or s x 0) (sym ea) ∙ f in
      subst (λ (x : ℕ). Passed w l (set s x 1) kept (i + 1)) (sym ea)
      (record {
        each = each_next p.each;
        counted = counted_next s 1 (λ x. omega arith) (omega arith) p.counted;
        few = p.few;
        others = kept_next (omega arith) p.others;
      })

  -- The record holds another ticket, whose code is x. b is whether it was not among the codes kept.
  module _ {s kept : List ℕ} (p : Passed w l s kept i) (low : d < idle_bin) where
    is_other : holds_other (pending_of w) r ≡ true
    is_other = low_other w r t.bounds colour_most (omega (arith, bin_is_lem))

    -- Its bin is a byte that has room for one more: the others are at most 64.
    pub bin_few : get_or s d 0 ≤ 64
    bin_few =
        omega (
          arith,
          p.counted.bin d (λ e. omega arith),
          p.few,
          t.bounds.k_most,
          p.others.many,
          count_most (λ y. eqb (bin_of w y) d) (holds_other (pending_of w)) (take i l) idle_record (λ j h e.
              low_other w (get_or (take i l) j idle_record) t.bounds (each_colour j h) (omega (arith, eqb-true (bin_of w (get_or (take i l) j idle_record)) d e))),
        )
      where
        each_colour : (j : ℕ) → j < length (take i l) → (get_or (take i l) j idle_record).colour.0 ≤ w.k
        each_colour j h = (record_range w _ (all_at (record_sound w) (take i l) idle_record p.each j h)).colour_ok

    code_more : (x : ℕ) → count (holds_code w x) (take (i + 1) l) ≡ count (holds_code w x) (take i l) + one_if (eqb code x)
    code_more x =
        more (holds_code w x)
        ∙ ap (λ (b : Bool). count (holds_code w x) (take i l) + one_if b) (code_is x ∙ ap (λ (b : Bool). b && eqb code x) is_other)

    -- One too many.
    pub others_full : length kept ≡ w.k - w.ahead → Tells false (OthersRight w l)
    others_full f =
        tells_no _ (λ a.
        omega (arith, p.others.many, more (holds_other (pending_of w)), ap one_if is_other, count_take_le (holds_other (pending_of w)) l (i + 1), a.number, f))

    module _ {x : ℕ} {b : Bool} {kept' : List ℕ} (ex : x ≡ code) (ins : Inserted x kept b kept') where
      abbrev is-x : ℕ → Bool
      is-x y = eqb y x

      -- One held twice.
      pub others_twice : b ≡ false → Tells false (OthersRight w l)
      others_twice f =
          tells_no _ (λ a.
          omega (arith, any_count is-x kept (not-false (any is-x kept) (sym ins.new ∙ f)), p.others.same x, code_more x, ap one_if (eq-eqb code x (sym ex)), count_take_le (holds_code w x) l (i + 1), a.once x))

      kept_add : b ≡ true → Kept w l (i + 1) (kept ++ (x ∷ []))
      kept_add f =
          record {
            many = length-append kept (x ∷ []) ∙ omega (arith, p.others.many, more (holds_other (pending_of w)), ap one_if is_other);
            same = λ y.
                count_append (λ u. eqb u y) kept (x ∷ [])
                ∙ ap₂ (λ (a b : ℕ). a + b) (p.others.same y) (count_one (λ u. eqb u y) x ∙ ap (λ (v : ℕ). one_if (eqb v y)) ex) ∙ sym (code_more y);
            once = λ y. by_eq x y
                (λ g.
                let o : count is-x kept ≡ 0 =
                by_lt 0 (count is-x kept)
                (λ z. clash (any is-x kept) (count_any is-x kept 0 z) (not-true (any is-x kept) (sym ins.new ∙ f)))
                (λ z. omega arith) in
                omega (arith, code_more y, p.others.same x, o, ap (λ (v : ℕ). count (holds_code w v) (take i l)) g, ap one_if (eq-eqb code y (sym ex ∙ g))))
                (λ g. omega (arith, code_more y, p.others.once y, ap one_if (ne_eqb code y (λ v. g (ex ∙ v)))));
          }

      pub pass_other : {at : ℕ} → at ≡ d → (length kept ≡ w.k - w.ahead → ⊥) → b ≡ true → Passed w l (set s at (get_or s at 0 + 1)) kept' (i + 1)
      pass_other ea g f =
          subst (λ (y : ℕ). Passed w l (set s y (get_or s y 0 + 1)) kept' (i + 1)) (sym ea)
          (record {
            each = each_next p.each;
            counted = counted_next s (get_or s d 0 + 1) (λ y. omega arith) refl p.counted;
            few = omega (arith, ap length (ins.added f), length-append kept (x ∷ []), p.few, g);
            others = subst (Kept w l (i + 1)) (sym (ins.added f)) (kept_add f);
          })

-- After the last record.
module _ {g : Gate} {w : Lead} {s₀ s kept : List ℕ} {l : List Record} {i : ℕ} (q : PassAsks g w s₀) (p : Passed w l s kept i) (h : length l ≤ i) where
  is_whole : take i l ≡ l
  is_whole = take_all i l h

  pub all_sound : all (record_sound w) l ≡ true
  all_sound = sym (ap (all (record_sound w)) is_whole) ∙ p.each

  pub all_counted : Counted w l s
  all_counted = subst (λ (x : List Record). Counted w x s) is_whole p.counted

  all_many : length kept ≡ count (holds_other (pending_of w)) l
  all_many = p.others.many ∙ ap (count (holds_other (pending_of w))) is_whole

  all_same : (x : ℕ) → count (λ y. eqb y x) kept ≡ count (holds_code w x) l
  all_same x = p.others.same x ∙ ap (count (holds_code w x)) is_whole

  all_once : (x : ℕ) → count (holds_code w x) l ≤ 1
  all_once x = subst (λ (y : List Record). count (holds_code w x) y ≤ 1) is_whole (p.others.once x)

  -- Too few; enough, where VALID is ahead; enough, where VALID's own ticket decides.
  pub others_few : (length kept ≡ w.k - w.ahead → ⊥) → Tells false (OthersRight w l)
  others_few f = tells_no _ (λ a. f (omega (arith, all_many, a.number)))

  module _ (f : length kept ≡ w.k - w.ahead) where
    number_is : count (holds_other (pending_of w)) l + w.ahead ≡ w.k
    number_is = omega (arith, all_many, (asks_bounds q).ahead_most)

    pub others_ahead : w.ahead ≢ 0 → Tells true (OthersRight w l)
    others_ahead z = record { says = λ e. record { number = number_is; once = all_once; own = λ y. absurd (z y) }; heeds = λ a. refl }

    pub others_own : {x : ℕ} {b : Bool} → w.ahead ≡ 0 → x ≡ code_of (val w.valid) (col w.valid) → b ≡ any (λ y. eqb y x) kept → Tells b (OthersRight w l)
    others_own {x} {b} z ex eb =
        let c = ap (λ (y : ℕ). count (holds_code w y) l) ex in
        record {
          says = λ e.
              record {
                number = number_is;
                once = all_once;
                own = λ y. omega (arith, any_count (λ y. eqb y x) kept (sym eb ∙ e), all_same x, c);
              };
          heeds = λ a. eb ∙ count_any (λ y. eqb y x) kept 0 (omega (arith, a.own z, all_same x, c));
        }
