-- An accepted open leaves a sound gate, related to the empty queue: in any block that fits, so in the gate's own.
--
-- Main statements: `open_sound_in`, `open_related_in`; in the gate's own block: `open_sound`, `open_related`.
use Prim.Native.Nat.{suc, zero, ℕ, ◌+◌, ◌-◌, ◌<◌, ◌≤◌}
use mathlib.Core.Path.{ap, refl, sym, ◌∙◌, ◌≡◌}
use mathlib.Core.Bool.{Bool, false, true, true≢false, ◌&&◌}
use mathlib.Core.List.{List, [], map}
use mathlib.Core.Logic.{⊎_elim}
use native.Mathlib.Omega.{arith}
use lib.ListN.{drop_of_length-le, get_or, get_or-replicate, length, length-replicate}
use lib.Dec.{eqb, leb}
use borrow.Author.Tests.{eq-eqb, leb-true, ne_eqb}
use lib.LanesLaws.{map-replicate}
use Rattle.model.specs.declared.Gate.{Gate}
use Rattle.model.specs.declared.Record.{Record}
use Rattle.model.specs.declared.Ticket.{Ticket}
use Rattle.model.specs.Calls.{idle_record}
use Rattle.model.specs.Opening.{open_accepts, open_in_range, opened, opened_in}
use Rattle.model.specs.Lists.{count, one_if}
use Rattle.model.specs.Queue.{empty_queue}
use Rattle.model.specs.Sound.{ahead_in, among, behind_in, held, holds, holds_other, inside, pending_in, spare_in, ticket_of, year_in_range}
use Rattle.model.specs.Steps.{Block, Fits, InBlock, col, is_year, ticket, year_block}
use Rattle.model.proofs.Blocks.{get_d_places, length_places, place_col}
use Rattle.model.proofs.Counting.{count_none, count_same}
use Rattle.model.proofs.IsSound.{Each, IsSound, IsSoundIn, RecordInRange, year_fits}
use Rattle.model.proofs.Logic.{and_i, and_l, and_r, clash}
use Rattle.model.proofs.Moves.{ahead_same, behind_ahead}
use Rattle.model.proofs.RecordTests.{among_nil, holds_other_in}
use Rattle.model.proofs.Relation.{Related, RelatedIn, plugin_ticket, times}
use Rattle.model.proofs.SoundLaws.{count_true}
use Rattle.model.proofs.Taking.{pending_nil}

count_every : {A : Type 0} (p : A → Bool) (l : List A) (d : A) → ((i : ℕ) → i < length l → p (get_or l i d) ≡ true) → count p l ≡ length l
count_every p l d f = count_same p (λ x. true) l d f ∙ count_true l

-- What open accepts.
pub in_range : (year n k : ℕ) → open_in_range year n k ≡ true → (1 ≤ n) × (n ≤ 1024) × (1 ≤ k) × (k ≤ 64)
unfolding open_in_range
in_range year n k e =
    let d = and_l (leb 1 n && leb n 1024 && leb 1 k && leb k 64) (is_year year) e in
    let c = and_l (leb 1 n && leb n 1024 && leb 1 k) (leb k 64) d in
    let b = and_l (leb 1 n && leb n 1024) (leb 1 k) c in (
      leb-true _ _ (and_l _ _ b),
      leb-true _ _ (and_r (leb 1 n) _ b),
      leb-true _ _ (and_r (leb 1 n && leb n 1024) _ c),
      leb-true _ _ (and_r (leb 1 n && leb n 1024 && leb 1 k) _ d),
    )

accepts_range : (year n k : ℕ) → open_accepts year n k ≡ true → open_in_range year n k ≡ true
unfolding open_accepts
accepts_range year n k e = and_l (open_in_range year n k) _ e

-- The year of an accepted open is one that the words may keep.
pub accepts_year : (year n k : ℕ) → open_accepts year n k ≡ true → year_in_range year n k ≡ true
unfolding open_accepts open_in_range year_in_range
accepts_year year n k e =
    and_i (is_year year) _ (and_r (leb 1 n && leb n 1024 && leb 1 k && leb k 64) (is_year year) (and_l (open_in_range year n k) _ e))
    (and_r (open_in_range year n k) _ e)

pub accepted : (year n k : ℕ) → open_accepts year n k ≡ true → (1 ≤ n) × (n ≤ 1024) × (1 ≤ k) × (k ≤ 64)
accepted year n k e = in_range year n k (accepts_range year n k e)

module _ (B : Block) (year n k : ℕ) (e : open_accepts year n k ≡ true) (fit : Fits B n k) where
  abbrev g : Gate
  g = (opened_in B year n k).gate

  abbrev l : List Record
  l = (opened_in B year n k).list

  each_idle : (P : Record → Type 0) → P idle_record → Each P l
  each_idle P h i b = rw (get_or-replicate n i idle_record idle_record (omega (arith, length-replicate n idle_record))) h

  none : (p : Record → Bool) → p idle_record ≡ false → count p l ≡ 0
  none p e = count_none p l idle_record (each_idle (λ r. p r ≡ false) e)

  ahead_k : ahead_in B g ≡ k
  ahead_k = ahead_same B.size (ticket B.first 0) (ticket (B.first + k) 0) refl ∙ omega arith

  behind_0 : behind_in B g ≡ 0
  behind_0 = behind_ahead B.size (ticket B.first 0) (ticket (B.first + k) 0) (λ e. absurd (e refl)) ∙ ahead_same B.size (ticket (B.first + k) 0) (ticket B.first 0) refl ∙ omega arith

  pend : pending_in B g ≡ []
  pend = pending_nil B g behind_0

  spare_len : length (spare_in B g) ≡ k
  unfolding spare_in
  spare_len = length_places B 0 (ticket B.first 0) (ahead_in B g) ∙ ahead_k

  spare_0 : (i : ℕ) → i < length (spare_in B g) → col (get_or (spare_in B g) i (ticket B.first 0)) ≡ 0
  unfolding spare_in
  spare_0 i h =
      rw (get_d_places B 0 (ticket B.first 0) (ahead_in B g) i (ticket B.first 0) (omega (arith, length_places B 0 (ticket B.first 0) (ahead_in B g))))
      (⊎_elim (λ e. e) (λ e. e) (place_col B 0 (ticket B.first 0) (suc i)))

  counts_open : (c : ℕ) → c < 65 → get_or g.counts c 0 ≡ count (holds_other_in (pending_in B g) c) l + count (λ t. eqb (col t) c) (spare_in B g)
  counts_open zero h =
      omega (
        arith,
        none (holds_other_in (pending_in B g) 0) refl,
        count_every (λ t. eqb (col t) 0) (spare_in B g) (ticket B.first 0) (λ i b. eq-eqb _ _ (spare_0 i b)),
        spare_len,
      )
  counts_open (suc c) h =
      omega (
        arith,
        get_or-replicate {A = ℕ} 64 c 0 0 (omega arith),
        none (holds_other_in (pending_in B g) (suc c)) refl,
        count_none (λ t. eqb (col t) (suc c)) (spare_in B g) (ticket B.first 0) (λ i b. ne_eqb (col (get_or (spare_in B g) i (ticket B.first 0))) (suc c) (λ e. omega (arith, spare_0 i b))),
      )

  above_open : (c : ℕ) → c < 65 → k < c → get_or g.counts c 0 ≡ 0
  above_open zero h b = absurd (omega arith)
  above_open (suc c) h b = get_or-replicate 64 c 0 0 (omega arith)

  issue_open : InBlock B (ticket B.first 0)
  issue_open = record { low = omega arith; high = omega (arith, fit.above_k) }

  valid_open : InBlock B (ticket (B.first + k) 0)
  valid_open = record { low = omega arith; high = omega (arith, fit.above_k) }

  pub open_sound_in : IsSoundIn B g l
  open_sound_in = record {
    fits = fit;
    year_ok = accepts_year year n k e;
    n_low = (accepted year n k e).0;
    n_high = (accepted year n k e).1;
    k_low = (accepted year n k e).2;
    k_high = (accepted year n k e).3;
    issue_in = issue_open;
    issue_col = omega arith;
    valid_in_lem = valid_open;
    valid_col = omega arith;
    above = above_open;
    records =
        each_idle (RecordInRange B k) (record {
          region_ok = omega arith;
          mark_ok = omega arith;
          ticket_in = λ e. absurd (true≢false (sym e));
          colour_ok = omega arith;
          idle_value = λ e. refl;
          idle_colour = λ e. refl;
        });
    ahead_most = omega (arith, ahead_k);
    behind_most = omega (arith, behind_0);
    distinct = λ t. omega (arith, none (holds t) refl);
    issue_top = each_idle (λ r. held r ≡ true → r.colour.0 ≡ 0 → r.value.0 ≤ B.first) (λ e. absurd (true≢false (sym e)));
    valid_new = λ e p. absurd (e refl);
    waited = λ t e. clash _ e (ap (λ (ps : List Ticket). among t ps) pend ∙ among_nil t);
    others = omega (arith, none (holds_other (pending_in B g)) refl, ahead_k);
    own = λ z. absurd (omega (arith, ahead_k, (accepted year n k e).2));
    no_inside = each_idle (λ r. inside r ≡ true → among (ticket_of r) (pending_in B g) ≡ false) (λ e. absurd (true≢false (sym e)));
    counted = counts_open;
  }

  no_row : (p : ℕ) → 1 ≤ p → p ≤ n → times p [] ≡ one_if (held (get_or l (p - 1) idle_record))
  unfolding count
  no_row p a b = sym (each_idle (λ r. one_if (held r) ≡ 0) refl (p - 1) (omega (arith, length-replicate n idle_record)))

  pub open_related_in : RelatedIn B g l (empty_queue n k)
  open_related_in = record {
    is_sound = open_sound_in;
    len = length-replicate n idle_record;
    counts_len = refl;
    n_is = refl;
    k_is = refl;
    regions_are = sym (map-replicate (λ (r : Record). r.region) n idle_record);
    marks_are = sym (map-replicate (λ (r : Record). r.mark) n idle_record);
    row_range = λ j h. absurd (omega arith);
    row_times = λ p a b. no_row p a b;
    row_size = omega (arith, ahead_k, behind_0);
    row_tail = ap (map (plugin_ticket l)) (drop_of_length-le [] {i = k} (omega arith)) ∙ sym pend;
  }

-- In the year's block.
pub open_related : (year n k : ℕ) → open_accepts year n k ≡ true → Related (opened year n k).gate (opened year n k).list (empty_queue n k)
open_related year n k e = open_related_in (year_block year n k) year n k e (year_fits year n k (accepted year n k e).2 (accepts_year year n k e))

pub open_sound : (year n k : ℕ) → open_accepts year n k ≡ true → IsSound (opened year n k).gate (opened year n k).list
open_sound year n k e = (open_related year n k e).is_sound
