-- What the test `sound_numbered` decides, as facts.
--
-- Main statements: `IsSoundNumbered` (the sentences of A.9's soundness as propositions), `numbered_use`, `numbered_i`.
use Prim.Native.Nat.{ℕ, suc, ◌+◌, ◌-◌, ◌≤◌, ◌<◌}
use mathlib.Core.Path.{◌≡◌, subst, ◌∙◌}
use mathlib.Core.Bool.{true, ◌&&◌}
use mathlib.Core.List.{List}
use native.Mathlib.Omega.{arith}
use lib.ListN.{get_or, length}
use lib.Dec.{leb}
use borrow.Author.Tests.{leb-true, le-leb, eqb-true, eq-eqb}
use Rattle.numbered.specs.declared.NumberedGate.{NumberedGate}
use Rattle.numbered.specs.declared.NumberedRecord.{NumberedRecord}
use Rattle.model.specs.Lists.{count, numbers_from}
use Rattle.model.proofs.Logic.{and_i, and_l, and_r, by_lt, implies_i, implies_use}
use Rattle.model.proofs.Counting.{all_at, all_i, any_count, count_any, count_find}
use Rattle.model.proofs.Rows.{numbers_at, numbers_length}
use Rattle.numbered.specs.Sound.{ahead_by, awaits_number, behind_by, has_ticket, held_distinct, held_issued, holds_number, idle_tickets_zero, is_idle, last_valid_held, later_awaited, lead_within_bounds, not_above_valid, regions_in_range, sizes_allowed, sizes_in_range, sound_numbered, valid_number_k}
use Rattle.numbered.specs.Calls.{idle_numbered}

pub record IsSoundNumbered (g : NumberedGate) (l : List NumberedRecord) : Type 0 where
  pub n_low : 1 ≤ g.n
  pub n_high : g.n ≤ 1024
  pub k_low : 1 ≤ g.k
  pub k_high : g.k ≤ 64
  pub region_ok : (i : ℕ) → i < length l → (get_or l i idle_numbered).region ≤ 2
  pub mark_ok : (i : ℕ) → i < length l → (get_or l i idle_numbered).mark ≤ 1
  pub idle_ticket : (i : ℕ) → i < length l → (get_or l i idle_numbered).region ≡ 0 → (get_or l i idle_numbered).ticket ≡ 0
  pub distinct : (t : ℕ) → count (holds_number t) l ≤ 1
  pub issue_top : (i : ℕ) → i < length l → has_ticket (get_or l i idle_numbered) ≡ true → (get_or l i idle_numbered).ticket ≤ g.issue
  pub ahead_most : ahead_by g ≤ g.k
  pub behind_most : behind_by g ≤ g.n - g.k
  pub waited : (t : ℕ) → g.valid < t → t ≤ g.issue → 0 < count (awaits_number t) l
  pub number : count (λ r. has_ticket r && not_above_valid g r.ticket) l + ahead_by g ≡ g.k
  pub own : g.valid ≤ g.issue → 0 < count (holds_number g.valid) l

-- N and k.
pub sizes_use : (n k : ℕ) → sizes_allowed n k ≡ true → (1 ≤ n) × (n ≤ 1024) × (1 ≤ k) × (k ≤ 64)
unfolding sizes_allowed
sizes_use n k e =
    let w : (leb 1 n ≡ true) × (leb n 1024 ≡ true) × (leb 1 k ≡ true) × (leb k 64 ≡ true) = search (and_l, and_r) depth 6 in
    (leb-true _ _ w.0, leb-true _ _ w.1, leb-true _ _ w.2, leb-true _ _ w.3)

pub sizes_i : (n k : ℕ) → 1 ≤ n → n ≤ 1024 → 1 ≤ k → k ≤ 64 → sizes_allowed n k ≡ true
unfolding sizes_allowed
sizes_i n k a b c d = and_i _ _ (and_i _ _ (and_i _ _ (le-leb _ _ a) (le-leb _ _ b)) (le-leb _ _ c)) (le-leb _ _ d)

module _ (g : NumberedGate) (l : List NumberedRecord) where
  abbrev pub Parts : Type 0
  Parts =
      (sizes_in_range g ≡ true) × (regions_in_range l ≡ true) × (idle_tickets_zero l ≡ true) × (held_distinct l ≡ true) × (held_issued g l ≡ true)
      × (lead_within_bounds g ≡ true) × (later_awaited g l ≡ true) × (valid_number_k g l ≡ true) × (last_valid_held g l ≡ true)

  pub parts : sound_numbered g l ≡ true → Parts
  unfolding sound_numbered
  parts e = search (and_l, and_r) depth 12

  pub parts_i : Parts → sound_numbered g l ≡ true
  unfolding sound_numbered
  parts_i p = search and_i depth 12

  region_use : regions_in_range l ≡ true → (i : ℕ) → i < length l → ((get_or l i idle_numbered).region ≤ 2) × ((get_or l i idle_numbered).mark ≤ 1)
  unfolding regions_in_range
  region_use e i h =
      let x = all_at _ l idle_numbered e i h in
      (leb-true _ _ (and_l _ _ x), leb-true _ _ (and_r (leb (get_or l i idle_numbered).region 2) _ x))

  region_i : ((i : ℕ) → i < length l → ((get_or l i idle_numbered).region ≤ 2) × ((get_or l i idle_numbered).mark ≤ 1)) → regions_in_range l ≡ true
  unfolding regions_in_range
  region_i f = all_i _ l idle_numbered (λ i h. and_i _ _ (le-leb _ _ (f i h).0) (le-leb _ _ (f i h).1))

  idle_use : idle_tickets_zero l ≡ true → (i : ℕ) → i < length l → (get_or l i idle_numbered).region ≡ 0 → (get_or l i idle_numbered).ticket ≡ 0
  unfolding idle_tickets_zero
  idle_use e i h z = eqb-true _ _ (implies_use _ _ (all_at _ l idle_numbered e i h) (eq-eqb _ _ z))

  idle_i : ((i : ℕ) → i < length l → (get_or l i idle_numbered).region ≡ 0 → (get_or l i idle_numbered).ticket ≡ 0) → idle_tickets_zero l ≡ true
  unfolding idle_tickets_zero
  idle_i f = all_i _ l idle_numbered (λ i h. implies_i (is_idle (get_or l i idle_numbered)) _ (λ z. eq-eqb _ _ (f i h (eqb-true _ _ z))))

  lead_use : lead_within_bounds g ≡ true → (ahead_by g ≤ g.k) × (behind_by g ≤ g.n - g.k)
  unfolding lead_within_bounds
  lead_use e = (leb-true _ _ (and_l _ _ e), leb-true _ _ (and_r (leb (ahead_by g) g.k) _ e))

  lead_i : ahead_by g ≤ g.k → behind_by g ≤ g.n - g.k → lead_within_bounds g ≡ true
  unfolding lead_within_bounds
  lead_i a b = and_i _ _ (le-leb _ _ a) (le-leb _ _ b)

  distinct_use : held_distinct l ≡ true → (t : ℕ) → count (holds_number t) l ≤ 1
  unfolding held_distinct
  distinct_use e t =
      by_lt 0 (count (holds_number t) l)
      (λ h.
      let r = count_find (holds_number t) l idle_numbered h in
      let x = get_or l r.0 idle_numbered in
      let q : t ≡ x.ticket = eqb-true _ _ (and_r (has_ticket x) _ r.2) in
      rw q (leb-true _ _ (implies_use _ _ (all_at _ l idle_numbered e r.0 r.1) (and_l (has_ticket x) _ r.2))))
      (λ h. omega arith)

  distinct_i : ((t : ℕ) → count (holds_number t) l ≤ 1) → held_distinct l ≡ true
  unfolding held_distinct
  distinct_i f = all_i _ l idle_numbered (λ i h. implies_i (has_ticket (get_or l i idle_numbered)) _ (λ e. le-leb _ _ (f (get_or l i idle_numbered).ticket)))

  top_use : held_issued g l ≡ true → (i : ℕ) → i < length l → has_ticket (get_or l i idle_numbered) ≡ true → (get_or l i idle_numbered).ticket ≤ g.issue
  unfolding held_issued
  top_use e i h q = leb-true _ _ (implies_use _ _ (all_at _ l idle_numbered e i h) q)

  top_i : ((i : ℕ) → i < length l → has_ticket (get_or l i idle_numbered) ≡ true → (get_or l i idle_numbered).ticket ≤ g.issue) → held_issued g l ≡ true
  unfolding held_issued
  top_i f = all_i _ l idle_numbered (λ i h. implies_i (has_ticket (get_or l i idle_numbered)) _ (λ q. le-leb _ _ (f i h q)))

  pub waited_use : later_awaited g l ≡ true → (t : ℕ) → g.valid < t → t ≤ g.issue → 0 < count (awaits_number t) l
  unfolding later_awaited
  waited_use e t a b =
      let j = t - g.valid - 1 in
      let h : j < behind_by g = omega arith in
      let q : get_or (numbers_from (suc g.valid) (behind_by g)) j 0 ≡ t = numbers_at (suc g.valid) (behind_by g) j 0 h ∙ omega arith in
      subst (λ (x : ℕ). 0 < count (awaits_number x) l) q
      (any_count _ l (all_at _ (numbers_from (suc g.valid) (behind_by g)) 0 e j (omega (arith, numbers_length (suc g.valid) (behind_by g)))))

  pub waited_i : ((t : ℕ) → g.valid < t → t ≤ g.issue → 0 < count (awaits_number t) l) → later_awaited g l ≡ true
  unfolding later_awaited
  waited_i f =
      all_i _ (numbers_from (suc g.valid) (behind_by g)) 0 (λ j h.
      let q : j < behind_by g = omega (arith, numbers_length (suc g.valid) (behind_by g)) in
      let e : get_or (numbers_from (suc g.valid) (behind_by g)) j 0 ≡ suc g.valid + j = numbers_at (suc g.valid) (behind_by g) j 0 q in
      rw e (count_any _ l idle_numbered (f (suc g.valid + j) (omega arith) (omega arith))))

  number_use : valid_number_k g l ≡ true → count (λ r. has_ticket r && not_above_valid g r.ticket) l + ahead_by g ≡ g.k
  unfolding valid_number_k
  number_use e = eqb-true _ _ e

  number_i : count (λ r. has_ticket r && not_above_valid g r.ticket) l + ahead_by g ≡ g.k → valid_number_k g l ≡ true
  unfolding valid_number_k
  number_i e = eq-eqb _ _ e

  pub own_use : last_valid_held g l ≡ true → g.valid ≤ g.issue → 0 < count (holds_number g.valid) l
  unfolding last_valid_held
  own_use e h = any_count _ l (implies_use _ _ e (le-leb _ _ h))

  pub own_i : (g.valid ≤ g.issue → 0 < count (holds_number g.valid) l) → last_valid_held g l ≡ true
  unfolding last_valid_held
  own_i f = implies_i _ _ (λ e. count_any _ l idle_numbered (f (leb-true _ _ e)))

  pub numbered_use : sound_numbered g l ≡ true → IsSoundNumbered g l
  numbered_use e =
      let p = parts e in
      let w = sizes_use g.n g.k p.0 in
      record {
        n_low = w.0;
        n_high = w.1;
        k_low = w.2;
        k_high = w.3;
        region_ok = λ i h. (region_use p.1 i h).0;
        mark_ok = λ i h. (region_use p.1 i h).1;
        idle_ticket = idle_use p.2;
        distinct = distinct_use p.3;
        issue_top = top_use p.4;
        ahead_most = (lead_use p.5).0;
        behind_most = (lead_use p.5).1;
        waited = waited_use p.6;
        number = number_use p.7;
        own = own_use p.8;
      }

  pub numbered_i : IsSoundNumbered g l → sound_numbered g l ≡ true
  numbered_i s =
      parts_i (
        sizes_i g.n g.k s.n_low s.n_high s.k_low s.k_high,
        region_i (λ i h. (s.region_ok i h, s.mark_ok i h)),
        idle_i s.idle_ticket,
        distinct_i s.distinct,
        top_i s.issue_top,
        lead_i s.ahead_most s.behind_most,
        waited_i s.waited,
        number_i s.number,
        own_i s.own,
      )
