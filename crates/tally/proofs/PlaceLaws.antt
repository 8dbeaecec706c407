-- Places: how far the j-th place lies after its word, and what each return of `is_place` shows.
--
-- Main statements: `after_place`, and `among_far`, `among_colour` (being one of the places, as the code tests it).
use Prim.Native.Nat.{ℕ, ◌+◌, ◌-◌, ◌<◌, ◌≤◌}
use mathlib.Core.Path.{ap, sym, ◌∙◌, ◌≡◌}
use mathlib.Core.Bool.{Bool, false, ◌||◌}
use native.Mathlib.Omega.{arith}
use lib.Dec.{eqb}
use borrow.Author.Tests.{le-leb, le-ltb, lt-leb, lt-ltb}
use Rattle.model.specs.declared.Ticket.{Ticket}
use Rattle.model.specs.Sound.{among, places}
use Rattle.model.specs.Steps.{Block, col, val}
use Rattle.ranges.specs.Range.{block_from}
use Rattle.tally.specs.Places.{PlaceAsks, place_colour, places_after}
use Rattle.model.proofs.Blocks.{among_near, near, place, place_within, place_wraps}
use Rattle.model.proofs.Logic.{and_false, and_true, by_bool, by_lt}

-- How many places a value lies after another.
pub after_within : (m u t : ℕ) → u < t → places_after m u t ≡ t - u
unfolding places_after
after_within m u t h = simp (lt-ltb u t h)

pub after_wraps : (m u t : ℕ) → t ≤ u → places_after m u t ≡ t + m - u
unfolding places_after
after_wraps m u t h = simp (le-ltb u t h)

-- The j-th place lies j places after its word.
pub after_place : (b : Block) (c : ℕ) (u : Ticket) (j : ℕ) → val u < b.first + b.size → 0 < j → j < b.size
    → places_after b.size (val u) (val (place b c u j)) ≡ j
after_place b c u j p z h =
    by_lt (val u + j) (b.first + b.size)
    (λ l. ap (λ (x : Ticket). places_after b.size (val u) (val x)) (place_within b c u j l)
    ∙ after_within b.size (val u) (val u + j) (omega arith) ∙ omega arith)
    (λ l. ap (λ (x : Ticket). places_after b.size (val u) (val x)) (place_wraps b c u j p l (omega arith))
    ∙ after_wraps b.size (val u) (val u + j - b.size) (omega arith) ∙ omega arith)

-- The colour of a place, in the word's block and past its end.
pub colour_within : (t : ℕ) (u : Ticket) (c : ℕ) → val u < t → place_colour t u c ≡ col u
unfolding place_colour
colour_within t u c h = simp (lt-ltb (val u) t h)

pub colour_wraps : (t : ℕ) (u : Ticket) (c : ℕ) → t ≤ val u → place_colour t u c ≡ c
unfolding place_colour
colour_wraps t u c h = simp (le-ltb (val u) t h)

or_no : (a : Bool) → (a || false) ≡ a
or_no a = by_bool a (λ e. simp e) (λ e. simp e)

-- Being one of the n places after u, told by how far t lies after u and by the colour of the place there.
module _ (f : ℕ) (t u : Ticket) (c n m : ℕ) (q : PlaceAsks f t u n m) where
  pub near_is : near (block_from f m) c u n t ≡ among t (places (block_from f m) c u n)
  near_is =
      among_near (block_from f m) c u n t q.word_in.high q.ticket_in q.few

  pub among_far : n < places_after m (val u) (val t) → false ≡ among t (places (block_from f m) c u n)
  unfolding near
  among_far h =
      by_lt (val u) (val t)
      (λ l.
      let a = after_within m (val u) (val t) l in
      sym (simp (lt-leb (val t) (val u + n) (omega arith), lt-leb (val t + m) (val u + n) (omega (arith, q.few)), and_false)) ∙ near_is)
      (λ l.
      let a = after_wraps m (val u) (val t) l in
      sym (simp (le-ltb (val u) (val t) l, lt-leb (val t + m) (val u + n) (omega (arith, q.word_in.high, q.ticket_in.low)), and_false)) ∙ near_is)

  pub among_colour : places_after m (val u) (val t) ≤ n → eqb (col t) (place_colour (val t) u c) ≡ among t (places (block_from f m) c u n)
  unfolding near
  among_colour h =
      by_lt (val u) (val t)
      (λ l.
      let a = after_within m (val u) (val t) l in
      ap (eqb (col t)) (colour_within (val t) u c l)
      ∙ sym (simp (lt-ltb (val u) (val t) l, le-leb (val t) (val u + n) (omega arith), lt-leb (val t + m) (val u + n) (omega (arith, q.few)), and_false, and_true, or_no)) ∙ near_is)
      (λ l.
      let a = after_wraps m (val u) (val t) l in
      ap (eqb (col t)) (colour_wraps (val t) u c l)
      ∙ sym (simp (le-ltb (val u) (val t) l, le-leb (val t + m) (val u + n) (omega (arith, q.word_in.high, q.ticket_in.low)), and_false, and_true)) ∙ near_is)
