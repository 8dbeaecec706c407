-- How a word moves, for any first value and any block size: one law for the word that moves, used by take and by leave.
--
-- The two words are `a`, the one that moves, and `o`, the other. `ahead m a o` is how many places o is ahead of a, 0 if it is not.
-- Main statements: `moved_how` (the three ways of a move), `stepped` (the lead and the places between the words change by one).
use Prim.Native.Nat.{suc, ℕ, ◌+◌, ◌-◌, ◌<◌, ◌≤◌}
use mathlib.Core.Path.{ap, ap₂, refl, sym, ◌∙◌, ◌≡◌}
use mathlib.Core.Bool.{true}
use mathlib.Core.List.{List, [], ◌++◌, ◌∷◌}
use mathlib.Core.Logic.{◌≢◌}
use native.Mathlib.Omega.{arith}
use borrow.Author.Tests.{eq-eqb, le-leb, le-ltb, lt-ltb, ltb-true, ne_eqb}
use Rattle.model.specs.declared.Gate.{Gate}
use Rattle.model.specs.declared.Ticket.{Ticket}
use Rattle.model.specs.Sound.{ahead, behind, next_place, places}
use Rattle.model.specs.Steps.{Block, InBlock, col, last_value, leads, moved, new_colour, ticket, val}
use Rattle.model.proofs.Blocks.{next_within, next_wraps, place, place_within, place_wraps, places_short, places_snoc}
use Rattle.model.proofs.Logic.{by_eq, by_lt}

-- Words of different colours have different values.
abbrev pub Proper : Ticket → Ticket → Type 0
Proper a o = col a ≢ col o → val a ≢ val o

-- The lead, by cases.
pub ahead_same : (m : ℕ) (a o : Ticket) → col a ≡ col o → ahead m a o ≡ val o - val a
unfolding ahead
ahead_same m a o e = simp (eq-eqb _ _ e)

pub ahead_less : (m : ℕ) (a o : Ticket) → col a ≢ col o → val o < val a → ahead m a o ≡ val o + m - val a
unfolding ahead
ahead_less m a o e h = simp (ne_eqb _ _ e, lt-ltb _ _ h)

pub ahead_more : (m : ℕ) (a o : Ticket) → col a ≢ col o → val a ≤ val o → ahead m a o ≡ 0
unfolding ahead
ahead_more m a o e h = simp (ne_eqb _ _ e, le-ltb _ _ h)

-- Which word leads, where the colours differ.
pub leads_less : (a o : Ticket) → col a ≢ col o → val a < val o → leads a o ≡ true
unfolding leads
leads_less a o n h = simp (ne_eqb _ _ n, lt-ltb _ _ h)

pub less_leads : (a o : Ticket) → col a ≢ col o → leads a o ≡ true → val a < val o
unfolding leads
less_leads a o n e = ltb-true (val a) (val o) (simp (ne_eqb (col a) (col o) n) at e)

-- VALID is behind ISSUE by as many places as ISSUE is ahead of VALID.
pub behind_ahead : (m : ℕ) (i v : Ticket) → Proper i v → behind m i v ≡ ahead m v i
unfolding behind ahead
behind_ahead m i v p =
    by_eq (col i) (col v)
    (λ e. simp (eq-eqb _ _ e, eq-eqb _ _ (sym e)))
    (λ e. by_lt (val v) (val i)
    (λ h. simp (ne_eqb _ _ e, ne_eqb (col v) (col i) (λ x. e (sym x)), lt-ltb _ _ h, le-ltb (val i) (val v) (omega arith)))
    (λ h. simp (ne_eqb _ _ e, ne_eqb (col v) (col i) (λ x. e (sym x)), le-ltb _ _ h, lt-ltb (val i) (val v) (omega (arith, p e)))))

-- A lead below the block size: the words are proper.
pub behind_proper : (m : ℕ) (i v : Ticket) → behind m i v < m → Proper i v
unfolding behind
behind_proper m i v h e q = omega (arith, simp (ne_eqb _ _ e, le-ltb (val v) (val i) (omega arith)) at h)

-- How a word moves: within its block; from its last value to a new colour; or from its last value to the other word's colour.
pub data Moved (b : Block) (new : ℕ) (a o a' : Ticket) : Type 0 where
  onward : val a + 1 < b.first + b.size → a' ≡ ticket (val a + 1) (col a) → Moved b new a o a'
  anew : val a + 1 ≡ b.first + b.size → col a ≡ col o → a' ≡ ticket b.first new → Moved b new a o a'
  across : val a + 1 ≡ b.first + b.size → col a ≢ col o → val o < val a → a' ≡ ticket b.first (col o) → Moved b new a o a'

pub moved_how : (b : Block) (g : Gate) (a o : Ticket) → InBlock b a → InBlock b o → Proper a o → Moved b (new_colour g (col a)) a o (moved b g a o)
unfolding moved leads
moved_how b g a o h h' p =
    by_lt (val a) (last_value b)
    (λ l. onward (omega arith) (simp (lt-ltb _ _ l)))
    (λ l.
    by_eq (col a) (col o)
    (λ e. anew (omega arith) e (simp (le-ltb _ _ l, eq-eqb _ _ e, le-leb (val o) (val a) (omega arith))))
    (λ e.
    let q : val o < val a = omega (arith, p e) in
    across (omega arith) e q (simp (le-ltb _ _ l, ne_eqb _ _ e, le-ltb (val a) (val o) (omega arith)))))

-- What a move does. Where o is ahead, a takes the first of the places up to o. Where it is not, a is one place further ahead of o.
pub data Stepped (b : Block) (a o a' : Ticket) : Type 0 where
  toward : ahead b.size a o ≡ suc (ahead b.size a' o) → ahead b.size o a ≡ 0 → ahead b.size o a' ≡ 0
      → places b (col o) a (suc (ahead b.size a' o)) ≡ a' ∷ places b (col o) a' (ahead b.size a' o) → Stepped b a o a'
  away : ahead b.size a o ≡ 0 → ahead b.size a' o ≡ 0 → ahead b.size o a' ≡ suc (ahead b.size o a)
      → places b (col a') o (suc (ahead b.size o a)) ≡ places b (col a) o (ahead b.size o a) ++ (a' ∷ []) → Stepped b a o a'

first_place : (b : Block) (c : ℕ) (a a' : Ticket) (n : ℕ) → next_place b c a ≡ a' → places b c a (suc n) ≡ a' ∷ places b c a' n
unfolding places
first_place b c a a' n e = ap (λ (x : Ticket). x ∷ places b c x n) e

last_place : (b : Block) (c : ℕ) (o a' : Ticket) (n : ℕ) → place b c o (suc n) ≡ a' → places b c o (suc n) ≡ places b c o n ++ (a' ∷ [])
last_place b c o a' n e = places_snoc b c o n ∙ ap (λ (x : Ticket). places b c o n ++ (x ∷ [])) e

module _ (b : Block) (new : ℕ) (a o : Ticket) (ha : InBlock b a) (ho : InBlock b o) (p : Proper a o)
    (room : ahead b.size a o ≡ 0 → ahead b.size o a + 1 < b.size) where
  abbrev m : ℕ
  m = b.size

  stepped_onward : val a + 1 < b.first + m → Stepped b a o (ticket (val a + 1) (col a))
  stepped_onward h =
      by_eq (col a) (col o)
      (λ e.
      by_lt (val a) (val o)
      (λ l. toward
      (omega (arith, ahead_same m a o e, ahead_same m (ticket (val a + 1) (col a)) o e))
      (omega (arith, ahead_same m o a (sym e)))
      (omega (arith, ahead_same m o (ticket (val a + 1) (col a)) (sym e)))
      (first_place b (col o) a _ _ (next_within b (col o) a h)))
      (λ l. away
      (omega (arith, ahead_same m a o e))
      (omega (arith, ahead_same m (ticket (val a + 1) (col a)) o e))
      (omega (arith, ahead_same m o a (sym e), ahead_same m o (ticket (val a + 1) (col a)) (sym e)))
      (last_place b (col a) o _ _
      (place_within b (col a) o _ (omega (arith, ahead_same m o a (sym e)))
      ∙ ap₂ ticket (omega (arith, ahead_same m o a (sym e))) (sym e)))))
      (λ e. let e' : col o ≢ col a = λ x. e (sym x) in
      by_lt (val o) (val a)
      (λ l. toward
      (omega (arith, ahead_less m a o e l, ahead_less m (ticket (val a + 1) (col a)) o e (omega arith)))
      (ahead_more m o a e' (omega arith))
      (ahead_more m o (ticket (val a + 1) (col a)) e' (omega arith))
      (first_place b (col o) a _ _ (next_within b (col o) a h)))
      (λ l.
      let l' : val a < val o = omega (arith, p e) in
      let z : ahead m a o ≡ 0 = ahead_more m a o e l in
      let q : ahead m o a ≡ val a + m - val o = ahead_less m o a e' l' in
      let r : val a + 1 < val o = omega (arith, room z) in
      away z
      (ahead_more m (ticket (val a + 1) (col a)) o e (omega arith))
      (omega (arith, ahead_less m o (ticket (val a + 1) (col a)) e' r))
      (last_place b (col a) o _ _ (place_wraps b (col a) o _ ho.high (omega arith) (omega arith) ∙ ap (λ (x : ℕ). ticket x (col a)) (omega arith)))))

  stepped_anew : val a + 1 ≡ b.first + m → col a ≡ col o → new ≢ col o → Stepped b a o (ticket b.first new)
  stepped_anew h e n =
      let q : ahead m o a ≡ val a - val o = ahead_same m o a (sym e) in
      let n' : col o ≢ new = λ x. n (sym x) in
      let z : ahead m a o ≡ 0 = omega (arith, ahead_same m a o e) in
      away z
      (ahead_more m (ticket b.first new) o n ho.low)
      (by_lt b.first (val o)
      (λ l. omega (arith, ahead_less m o (ticket b.first new) n' l))
      (λ l. omega (arith, room z)))
      (last_place b new o _ _ (place_wraps b new o _ ho.high (omega arith) (omega arith) ∙ ap (λ (x : ℕ). ticket x new) (omega arith))
      ∙ ap (λ (l : List Ticket). l ++ (ticket b.first new ∷ [])) (places_short b new (col a) o _ (omega arith)))

  stepped_across : val a + 1 ≡ b.first + m → col a ≢ col o → val o < val a → Stepped b a o (ticket b.first (col o))
  stepped_across h e l =
      let e' : col o ≢ col a = λ x. e (sym x) in
      toward
      (omega (arith, ahead_less m a o e l, ahead_same m (ticket b.first (col o)) o refl))
      (ahead_more m o a e' (omega arith))
      (omega (arith, ahead_same m o (ticket b.first (col o)) refl))
      (first_place b (col o) a _ _ (next_wraps b (col o) a (omega arith)))

  -- After a step the lead has changed by exactly 1.
  pub stepped : (a' : Ticket) → (col a ≡ col o → new ≢ col o) → Moved b new a o a' → Stepped b a o a'
  stepped a' n (onward h e) = rw e (stepped_onward h)
  stepped a' n (anew h c e) = rw e (stepped_anew h c (n c))
  stepped a' n (across h c l e) = rw e (stepped_across h c l)

  pub moved_proper : (a' : Ticket) → (col a ≡ col o → new ≢ col o) → Moved b new a o a' → Proper a' o
  moved_proper a' n (onward h e) =
      rw e (λ x y.
      let z : ahead m a o ≡ 0 = ahead_more m a o x (omega arith) in
      omega (arith, room z, ahead_less m o a (λ q. x (sym q)) (omega arith)))
  moved_proper a' n (anew h c e) = rw e (λ x y. omega (arith, room (ahead_same m a o c ∙ omega arith), ahead_same m o a (sym c)))
  moved_proper a' n (across h c l e) = rw e (λ x y. x refl)

  pub moved_in : (a' : Ticket) → Moved b new a o a' → InBlock b a'
  moved_in a' (onward h e) = rw e (record { low = omega arith; high = h })
  moved_in a' (anew h c e) = rw e (record { low = omega arith; high = omega arith })
  moved_in a' (across h c l e) = rw e (record { low = omega arith; high = omega arith })

-- No lead either way: one ticket.
pub no_lead : (m : ℕ) (a o : Ticket) → Proper a o → ahead m a o ≡ 0 → ahead m o a ≡ 0 → val a < val o + m → val o < val a + m → a ≡ o
no_lead m a o p e f h h' =
    by_eq (col a) (col o)
    (λ c. ap₂ ticket (omega (arith, ahead_same m a o c, ahead_same m o a (sym c))) c)
    (λ c. by_lt (val a) (val o)
    (λ l. absurd (omega (arith, ahead_less m o a (λ x. c (sym x)) l)))
    (λ l. absurd (by_eq (val a) (val o) (p c) (λ n. omega (arith, ahead_less m a o c (omega arith))))))
