-- Soundness as the code tests it: the sentences about one record in one pass.
use mathlib.Core.Path.{◌≡◌}
use mathlib.Core.Bool.{Bool, true, ◌&&◌}
use mathlib.Core.List.{List}
use Prim.Native.Nat.{ℕ, ◌<◌}
use lib.ListN.{get_or, length}
use lib.Dec.{eqb, leb}
use Rattle.model.specs.Lists.{all, implies}
use Rattle.model.proofs.Counting.{all_at, all_i}
use Rattle.model.proofs.Logic.{and_i, and_l, and_r, bool_ext}
use Rattle.numbered.specs.declared.NumberedGate.{NumberedGate}
use Rattle.numbered.specs.declared.NumberedRecord.{NumberedRecord}
use Rattle.numbered.specs.Calls.{idle_numbered}
use Rattle.numbered.specs.Sound.{held_distinct, held_issued, idle_tickets_zero, is_idle, last_valid_held, later_awaited, lead_within_bounds, regions_in_range, sizes_allowed, sound_numbered, valid_number_k}
use Rattle.numbered.proofs.IsSoundNumbered.{parts, parts_i}
use Rattle.numbered_soundness.specs.Records.{record_passes}

-- The sentences about one record are those about all.
abbrev in_range : NumberedRecord → Bool
in_range r = leb r.region 2 && leb r.mark 1

abbrev zero : NumberedRecord → Bool
zero r = implies (is_idle r) (eqb r.ticket 0)

module _ (g : NumberedGate) (l : List NumberedRecord) where
  records_i : regions_in_range l ≡ true → idle_tickets_zero l ≡ true → held_issued g l ≡ true → all (record_passes g) l ≡ true
  unfolding regions_in_range idle_tickets_zero held_issued record_passes
  records_i a b c =
      all_i (record_passes g) l idle_numbered (λ i h.
      and_i _ _ (and_i _ _ (all_at _ l idle_numbered a i h) (all_at _ l idle_numbered b i h)) (all_at _ l idle_numbered c i h))

  records_use : all (record_passes g) l ≡ true → (regions_in_range l ≡ true) × (idle_tickets_zero l ≡ true) × (held_issued g l ≡ true)
  unfolding regions_in_range idle_tickets_zero held_issued record_passes
  records_use e =
      let at : (i : ℕ) → i < length l → record_passes g (get_or l i idle_numbered) ≡ true = all_at (record_passes g) l idle_numbered e in (
        all_i _ l idle_numbered (λ i h. let x = get_or l i idle_numbered in and_l (in_range x) _ (and_l (in_range x && zero x) _ (at i h))),
        all_i _ l idle_numbered (λ i h. let x = get_or l i idle_numbered in and_r (in_range x) (zero x) (and_l (in_range x && zero x) _ (at i h))),
        all_i _ l idle_numbered (λ i h. let x = get_or l i idle_numbered in and_r (in_range x && zero x) _ (at i h)),
      )

  -- The tests in the code's order.
  abbrev tests : Bool
  tests =
      sizes_allowed g.n g.k && lead_within_bounds g && all (record_passes g) l && valid_number_k g l && last_valid_held g l && later_awaited g l
      && held_distinct l

  abbrev Passed : Type 0
  Passed =
      (sizes_allowed g.n g.k ≡ true) × (lead_within_bounds g ≡ true) × (all (record_passes g) l ≡ true) × (valid_number_k g l ≡ true)
      × (last_valid_held g l ≡ true) × (later_awaited g l ≡ true) × (held_distinct l ≡ true)

  passed : tests ≡ true → Passed
  passed e = search (and_l, and_r) depth 9

  pub sound_as_tested : sound_numbered g l ≡ tests
  sound_as_tested =
      bool_ext _ _
      (λ s. let q = parts g l s in let r = records_i q.1 q.2 q.4 in search and_i depth 9)
      (λ s. let q = passed s in let r = records_use q.2 in parts_i g l (q.0, r.0, r.1, q.6, r.2, q.1, q.5, q.3, q.4))
