-- What follows for a sound gate: the number of held tickets, the sum of the counts, who holds the places after VALID.
--
-- Main statements: `held_count` (held tickets are k less the lead), `counts_sum` (the counts add up to k), `own_count`, `free_held` (nobody
-- holds a ticket of a free colour).
use Prim.Native.Nat.{suc, zero, ℕ, ◌+◌, ◌<◌, ◌≤◌}
use mathlib.Core.Path.{ap, refl, sym, ◌∙◌, ◌≡◌}
use mathlib.Core.Bool.{Bool, false, true, ◌&&◌}
use mathlib.Core.List.{List, [], ◌∷◌}
use mathlib.Core.Logic.{⊎_elim, ◌≢◌, ◌⊎◌}
use native.Mathlib.Omega.{arith}
use lib.ListN.{get_or, length}
use lib.Dec.{eqb}
use borrow.Author.Tests.{eq-eqb}
use Rattle.model.specs.declared.Gate.{Gate}
use Rattle.model.specs.declared.Record.{Record}
use Rattle.model.specs.declared.Ticket.{Ticket}
use Rattle.model.specs.Calls.{idle_record}
use Rattle.model.specs.Lists.{any, count, one_if}
use Rattle.model.specs.Sound.{ahead, ahead_in, among, behind_in, held, holds, holds_other, next_place, pending_in, places, spare_in, ticket_of}
use Rattle.model.specs.Steps.{Block, InBlock, col, free_colour, same_ticket}
use Rattle.model.proofs.Blocks.{among_at, get_d_places, length_places, next_in, not_after, place_col, same_refl, same_true}
use Rattle.model.proofs.Colours.{free_use}
use Rattle.model.proofs.Counting.{count_find, count_none, count_pos, count_same, count_split, count_sum_lem, sum_add, sum_count, sum_part, sum_same, sum_below}
use Rattle.model.proofs.IsSound.{Each, IsSoundIn}
use Rattle.model.proofs.Logic.{and_false, and_true, by_bool, by_lt, clash, not_i}
use Rattle.model.proofs.Moves.{Proper, behind_ahead, behind_proper}
use Rattle.model.proofs.RecordTests.{among_here, among_there, holds_held, holds_is, holds_one_of, holds_other_in, other_in_i, waits, waits_holds}

pub count_true : {A : Type 0} (l : List A) → count (λ x. true) l ≡ length l
unfolding count
count_true [] = refl
count_true (x ∷ l) = omega (arith, count_true l)

same_sym : (a b : Ticket) → same_ticket a b ≡ same_ticket b a
same_sym a b =
    by_bool (same_ticket a b)
    (λ e. e ∙ sym (same_refl b a (sym (same_true a b e))))
    (λ e. e ∙ sym (not_i _ (λ f. clash _ (same_refl a b (sym (same_true b a f))) e)))

-- The holders of a list's tickets, taken one ticket off.
pub one_of_cons : (x : Ticket) (ps : List Ticket) (r : Record) → among x ps ≡ false → one_if (holds_one_of (x ∷ ps) r) ≡ one_if (holds x r) + one_if (holds_one_of ps r)
unfolding any
one_of_cons x ps r e =
    by_bool (held r)
    (λ h. by_bool (same_ticket (ticket_of r) x)
    (λ q. let p : among (ticket_of r) ps ≡ false = ap (λ (t : Ticket). among t ps) (same_true _ _ q) ∙ e in
    simp (h, q, p, same_sym x (ticket_of r)))
    (λ q. simp (h, q, same_sym x (ticket_of r)) (omega arith)))
    (λ h. simp h)

-- The holders of other tickets, one ticket put on.
pub other_cons : (x : Ticket) (ps : List Ticket) (r : Record) → among x ps ≡ false → one_if (holds_other ps r) ≡ one_if (holds_other (x ∷ ps) r) + one_if (holds x r)
unfolding any
other_cons x ps r e =
    by_bool (held r)
    (λ h. by_bool (same_ticket (ticket_of r) x)
    (λ q. let p : among (ticket_of r) ps ≡ false = ap (λ (t : Ticket). among t ps) (same_true _ _ q) ∙ e in
    simp (h, q, p, same_sym x (ticket_of r)))
    (λ q. simp (h, q, same_sym x (ticket_of r)) (omega arith)))
    (λ h. simp h)

pub other_in_cons : (x : Ticket) (ps : List Ticket) (c : ℕ) (r : Record) → among x ps ≡ false → one_if (holds_other_in ps c r) ≡ one_if (holds_other_in (x ∷ ps) c r) + one_if (holds x r && eqb (col x) c)
unfolding any
other_in_cons x ps c r e =
    by_bool (held r)
    (λ h. by_bool (same_ticket (ticket_of r) x)
    (λ q. let p : among (ticket_of r) ps ≡ false = ap (λ (t : Ticket). among t ps) (same_true _ _ q) ∙ e in
    let w : r.colour.0 ≡ col x = ap col (same_true (ticket_of r) x q) in
    simp (h, q, p, same_sym x (ticket_of r)) (omega (arith, ap (λ (z : ℕ). one_if (eqb z c)) w)))
    (λ q. simp (h, q, same_sym x (ticket_of r)) (omega arith)))
    (λ h. simp h)

-- The one holder of a ticket, by colour.
pub one_holder : (x : Ticket) (c : ℕ) (l : List Record) → count (holds x) l ≡ 1 → count (λ r. holds x r && eqb (col x) c) l ≡ one_if (eqb (col x) c)
one_holder x c l e =
    by_bool (eqb (col x) c)
    (λ q. count_same (λ r. holds x r && eqb (col x) c) (holds x) l idle_record (λ i h. ap (λ (b : Bool). holds x (get_or l i idle_record) && b) q ∙ and_true (holds x (get_or l i idle_record))) ∙ omega (arith, ap one_if q))
    (λ q. count_none (λ r. holds x r && eqb (col x) c) l idle_record (λ i h. ap (λ (b : Bool). holds x (get_or l i idle_record) && b) q ∙ and_false (holds x (get_or l i idle_record))) ∙ omega (arith, ap one_if q))

-- Each of the first n places has one holder: n records hold them.
pub one_of_places : (b : Block) (c : ℕ) (l : List Record) (n : ℕ) (t : Ticket) → InBlock b t → n < b.size → ((u : Ticket) → among u (places b c t n) ≡ true → count (holds u) l ≡ 1) → count (holds_one_of (places b c t n)) l ≡ n
unfolding places any
one_of_places b c l zero t p h f = count_none _ l idle_record (λ i q. and_false (held (get_or l i idle_record)))
one_of_places b c l (suc n) t p h f =
    let x = next_place b c t in
    count_sum_lem _ (holds x) (holds_one_of (places b c x n)) l idle_record
    (λ i q. one_of_cons x (places b c x n) (get_or l i idle_record) (not_after b c x n (next_in b c t p).high (omega arith)))
    ∙ omega (
      arith,
      f x (among_here x (places b c x n)),
      one_of_places b c l n x (next_in b c t p) (omega arith) (λ u e. f u (among_there u x (places b c x n) e)),
    )

module _ {B : Block} (g : Gate) (l : List Record) (s : IsSoundIn B g l) where
  pub block_pos : 0 < B.size
  block_pos = omega (arith, s.fits.above_k)

  pub behind_lt : behind_in B g < B.size
  behind_lt = omega (arith, s.behind_most, s.fits.above_rest)

  pub ahead_lt : ahead_in B g < B.size
  ahead_lt = omega (arith, s.ahead_most, s.fits.above_k)

  pub proper : Proper g.issue g.valid
  proper = behind_proper B.size g.issue g.valid behind_lt

  pub proper' : Proper g.valid g.issue
  proper' n e = proper (λ x. n (sym x)) (sym e)

  pub behind_is : behind_in B g ≡ ahead B.size g.valid g.issue
  behind_is = behind_ahead B.size g.issue g.valid proper

  -- Each place after VALID is held once.
  pub held_once : (t : Ticket) → among t (pending_in B g) ≡ true → count (holds t) l ≡ 1
  held_once t e =
      let r = count_find (waits t) l idle_record (s.waited t e) in
      let x = get_or l r.0 idle_record in
      omega (arith, s.distinct t, count_pos (holds t) l r.0 idle_record r.1 (waits_holds x t r.2))

  -- The held tickets number k less the lead.
  pub held_count : count held l + ahead_in B g ≡ g.k + behind_in B g
  unfolding pending_in
  held_count =
      let a : count held l ≡ count (holds_one_of (pending_in B g)) l + count (holds_other (pending_in B g)) l = count_split held (λ r. among (ticket_of r) (pending_in B g)) l in
      let b : count (holds_one_of (pending_in B g)) l ≡ behind_in B g =
      one_of_places B (col g.issue) l (behind_in B g) g.valid s.valid_in_lem behind_lt held_once in
      omega (arith, s.others)

  -- The colours of the places.
  pub pending_col : (t : Ticket) → among t (pending_in B g) ≡ true → (col t ≡ col g.valid) ⊎ (col t ≡ col g.issue)
  unfolding pending_in
  pending_col t e =
      let r = among_at B (col g.issue) g.valid _ t e in
      rw r.2 (place_col B (col g.issue) g.valid (suc r.0))

  -- VALID's own ticket is none of the places after it.
  pub own_apart : among g.valid (pending_in B g) ≡ false
  unfolding pending_in
  own_apart = not_after B (col g.issue) g.valid _ s.valid_in_lem.high behind_lt

  pub spare_col : (j : ℕ) → j < length (spare_in B g) → col (get_or (spare_in B g) j g.issue) ≤ g.k
  unfolding spare_in
  spare_col j h =
      let q : j < ahead_in B g = omega (arith, length_places B (col g.valid) g.issue (ahead_in B g)) in
      rw (get_d_places B (col g.valid) g.issue _ j g.issue q)
      (⊎_elim (λ e. omega (arith, s.issue_col)) (λ e. omega (arith, s.valid_col)) (place_col B (col g.valid) g.issue (suc j)))

  pub spare_length : length (spare_in B g) ≡ ahead_in B g
  unfolding spare_in
  spare_length = length_places _ _ _ _

  -- The counts add up to k.
  pub counts_sum : sum_below (λ c. get_or g.counts c 0) (suc g.k) ≡ g.k
  counts_sum =
      sum_same _ (λ c. count (holds_other_in (pending_in B g) c) l + count (λ t. eqb (col t) c) (spare_in B g)) (suc g.k) (λ c h. s.counted c (omega (arith, s.k_high)))
      ∙ sum_add _ _ (suc g.k)
      ∙ omega (
        arith,
        sum_count (holds_other (pending_in B g)) (λ r. r.colour.0) l idle_record (suc g.k) (λ i h e. omega (arith, (s.records i h).colour_ok)),
        sum_count (λ t. true) col (spare_in B g) g.issue (suc g.k) (λ i h e. omega (arith, spare_col i h)),
        count_true (spare_in B g),
        spare_length,
        s.others,
      )

  spare_first : 0 < ahead_in B g → col g.issue ≡ col g.valid → col (get_or (spare_in B g) 0 g.issue) ≡ col g.valid
  unfolding spare_in
  spare_first h e =
      rw (get_d_places B (col g.valid) g.issue _ 0 g.issue h)
      (⊎_elim (λ x. x ∙ e) (λ x. x) (place_col B (col g.valid) g.issue 1))

  -- The count of the words' colour, where it is one.
  pub own_count : col g.issue ≡ col g.valid → 0 < get_or g.counts (col g.valid) 0
  own_count e =
      let c = col g.valid in
      let f = s.counted c (omega (arith, s.valid_col, s.k_high)) in
      by_lt 0 (ahead_in B g)
      (λ h. omega (arith, f, count_pos (λ t. eqb (col t) c) (spare_in B g) 0 g.issue (omega (arith, spare_length)) (eq-eqb _ _ (spare_first h e))))
      (λ h.
      let r = count_find (holds g.valid) l idle_record (s.own (omega arith)) in
      let x = get_or l r.0 idle_record in
      let q : g.valid ≡ ticket_of x = holds_is x g.valid r.2 in
      let a : among (ticket_of x) (pending_in B g) ≡ false = ap (λ (t : Ticket). among t (pending_in B g)) (sym q) ∙ own_apart in
      omega (arith, f, count_pos (holds_other_in (pending_in B g) c) l r.0 idle_record r.1 (other_in_i x (pending_in B g) c (holds_held x g.valid r.2) a (sym (ap col q)))))

  -- a free colour is held by no record.
  pub free_held : (c : ℕ) → c ≤ g.k → free_colour g c ≡ true → Each (λ r. held r ≡ true → r.colour.0 ≢ c) l
  free_held c b e i h q z =
      let r = get_or l i idle_record in
      let u = free_use g c e in
      let f = s.counted c (omega (arith, s.k_high)) in
      by_bool (among (ticket_of r) (pending_in B g))
      (λ a. ⊎_elim (λ x. u.2 (sym z ∙ x)) (λ x. u.1 (sym z ∙ x)) (pending_col (ticket_of r) a))
      (λ a. omega (arith, f, u.0, count_pos (holds_other_in (pending_in B g) c) l i idle_record h (other_in_i r (pending_in B g) c q a z)))

  -- No count is above k.
  pub count_few : (c : ℕ) → c < 65 → get_or g.counts c 0 ≤ g.k
  count_few c h =
      by_lt g.k c
      (λ a. omega (arith, s.above c h a))
      (λ a. omega (arith, sum_part (λ j. get_or g.counts j 0) (suc g.k) c (omega arith), counts_sum))
