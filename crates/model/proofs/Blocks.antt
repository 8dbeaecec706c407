-- Laws of blocks, for any first value and any block size: the j-th place after a word, its distance, and which tickets are
-- among the places after a word.
--
-- Main statements: `place_within` and `place_wraps` (the j-th place in closed form), `place_distance`, `place_inj`, `among_near`; the distance
-- by a comparison, sums and differences: `distance_compared`.
use Prim.Native.Nat.{ℕ, zero, suc, ◌+◌, ◌-◌, ◌%◌, ◌≤◌, ◌<◌}
use mathlib.Core.Path.{◌≡◌, refl, sym, ap, ap₂, ◌∙◌}
use mathlib.Core.Bool.{Bool, true, false, cond, ◌&&◌, ◌||◌}
use mathlib.Core.List.{List, [], ◌∷◌, ◌++◌}
use mathlib.Core.Logic.{◌⊎◌, inl, inr, ⊎_elim}
use native.Mathlib.Nat.{not-suc-le-zero, le_of_suc-le-suc, mod-eq_of_lt, add-mod_right}
use native.Mathlib.Omega.{arith}
use lib.ListN.{get_or, length}
use lib.Dec.{eqb, ltb, leb}
use borrow.Author.Tests.{ltb-true, leb-true, eqb-true, lt-ltb, le-ltb, le-leb, lt-leb, eq-eqb}
use Rattle.model.specs.declared.Gate.{Gate}
use Rattle.model.specs.declared.Ticket.{Ticket}
use Rattle.model.specs.Steps.{ticket, val, col, same_ticket, Block, InBlock, last_value, distance_in}
use Rattle.model.specs.Sound.{next_place, places, among}
use Rattle.model.proofs.Logic.{bool_ext, not_i, by_lt, and_l, and_r, and_i, or_cases, or_l, or_r}
use Rattle.model.proofs.Counting.{any_at, any_i}

pub same_true : (a b : Ticket) → same_ticket a b ≡ true → a ≡ b
same_true a b e = ap₂ ticket (eqb-true (val a) (val b) (and_l _ _ e)) (eqb-true (col a) (col b) (and_r (eqb (val a) (val b)) _ e))

pub same_refl : (a b : Ticket) → a ≡ b → same_ticket a b ≡ true
same_refl a b e = and_i _ _ (eq-eqb _ _ (ap val e)) (eq-eqb _ _ (ap col e))

-- The j-th place after t; after the block's last value comes its first in the colour c.
unfoldable pub place : Block → ℕ → Ticket → ℕ → Ticket
place b c t zero = t
place b c t (suc j) = place b c (next_place b c t) j

module _ (b : Block) (c : ℕ) where
  pub next_within : (t : Ticket) → val t + 1 < b.first + b.size → next_place b c t ≡ ticket (val t + 1) (col t)
  unfolding next_place
  next_within t h = simp (lt-ltb (val t) (last_value b) (omega arith))

  pub next_wraps : (t : Ticket) → b.first + b.size ≤ val t + 1 → next_place b c t ≡ ticket b.first c
  unfolding next_place
  next_wraps t h = simp (le-ltb (val t) (last_value b) (omega arith))

  pub place_within : (t : Ticket) (j : ℕ) → val t + j < b.first + b.size → place b c t j ≡ ticket (val t + j) (col t)
  unfolding place
  place_within t zero h = ap (λ (x : ℕ). ticket x (col t)) (omega arith)
  place_within t (suc j) h =
      rw (next_within t (omega arith)) (place_within (ticket (val t + 1) (col t)) j (omega arith) ∙ ap (λ (x : ℕ). ticket x (col t)) (omega arith))

  pub place_wraps : (t : Ticket) (j : ℕ) → val t < b.first + b.size → b.first + b.size ≤ val t + j → val t + j < b.first + b.size + b.size
      → place b c t j ≡ ticket (val t + j - b.size) c
  unfolding place
  place_wraps t zero p h q = absurd (omega arith)
  place_wraps t (suc j) p h q =
      by_lt (val t + 1) (b.first + b.size)
      (λ l. rw (next_within t l) (place_wraps (ticket (val t + 1) (col t)) j l (omega arith) (omega arith) ∙ ap (λ (x : ℕ). ticket x c) (omega arith)))
      (λ l. rw (next_wraps t l) (place_within (ticket b.first c) j (omega arith) ∙ ap (λ (x : ℕ). ticket x c) (omega arith)))

  -- The distance of the j-th place after t is j.
  pub place_distance : (t : Ticket) (j : ℕ) → val t < b.first + b.size → j < b.size → (val (place b c t j) + b.size - val t) % b.size ≡ j
  place_distance t j p h =
      by_lt (val t + j) (b.first + b.size)
      (λ l. ap (λ (x : Ticket). (val x + b.size - val t) % b.size) (place_within t j l) ∙ ap (λ (x : ℕ). x % b.size) (omega arith)
      ∙ add-mod_right j b.size ∙ mod-eq_of_lt h)
      (λ l. ap (λ (x : Ticket). (val x + b.size - val t) % b.size) (place_wraps t j p l (omega arith)) ∙ ap (λ (x : ℕ). x % b.size) (omega arith)
      ∙ mod-eq_of_lt h)

  -- Two of the first size − 1 places are the same only where their numbers are.
  pub place_inj : (t : Ticket) (i j : ℕ) → val t < b.first + b.size → i < b.size → j < b.size → place b c t i ≡ place b c t j → i ≡ j
  place_inj t i j p h h' e =
      sym (place_distance t i p h) ∙ ap (λ (x : Ticket). (val x + b.size - val t) % b.size) e ∙ place_distance t j p h'

  -- The list of the first n places.
  pub length_places : (t : Ticket) (n : ℕ) → length (places b c t n) ≡ n
  unfolding places
  length_places t zero = refl
  length_places t (suc n) = ap suc (length_places (next_place b c t) n)

  pub get_d_places : (t : Ticket) (n j : ℕ) (d : Ticket) → j < n → get_or (places b c t n) j d ≡ place b c t (suc j)
  unfolding places place
  get_d_places t zero j d h = absurd (not-suc-le-zero h)
  get_d_places t (suc n) zero d h = refl
  get_d_places t (suc n) (suc j) d h = get_d_places (next_place b c t) n j d (le_of_suc-le-suc h)

  pub places_snoc : (t : Ticket) (n : ℕ) → places b c t (suc n) ≡ places b c t n ++ (place b c t (suc n) ∷ [])
  unfolding places place
  places_snoc t zero = refl
  places_snoc t (suc n) = ap (λ (l : List Ticket). next_place b c t ∷ l) (places_snoc (next_place b c t) n)

  -- Being among the places.
  pub among_at : (u : Ticket) (n : ℕ) (t : Ticket) → among t (places b c u n) ≡ true → (j : ℕ) × (j < n) × (t ≡ place b c u (suc j))
  among_at u n t e =
      let r = any_at (λ s. same_ticket t s) (places b c u n) t e in
      let h : r.0 < n = omega (arith, r.1, length_places u n) in
      (r.0, h, same_true _ _ r.2 ∙ get_d_places u n r.0 t h)

  pub among_i : (u : Ticket) (n : ℕ) (t : Ticket) (j : ℕ) → j < n → t ≡ place b c u (suc j) → among t (places b c u n) ≡ true
  among_i u n t j h e =
      any_i (λ s. same_ticket t s) (places b c u n) t j (omega (arith, length_places u n)) (same_refl _ _ (e ∙ sym (get_d_places u n j t h)))

  -- The colour and the value of a place.
  pub next_col : (t : Ticket) → (col (next_place b c t) ≡ col t) ⊎ (col (next_place b c t) ≡ c)
  next_col t = by_lt (val t + 1) (b.first + b.size) (λ h. inl (ap col (next_within t h))) (λ h. inr (ap col (next_wraps t h)))

  pub next_in : (t : Ticket) → InBlock b t → InBlock b (next_place b c t)
  next_in t p =
      by_lt (val t + 1) (b.first + b.size)
      (λ h. rw (next_within t h) (record { low = omega (arith, p.low); high = h }))
      (λ h. rw (next_wraps t h) (record { low = omega arith; high = omega (arith, p.low, p.high) }))

  pub place_col : (t : Ticket) (j : ℕ) → (col (place b c t j) ≡ col t) ⊎ (col (place b c t j) ≡ c)
  unfolding place
  place_col t zero = inl refl
  place_col t (suc j) =
      ⊎_elim (λ e. ⊎_elim (λ f. inl (e ∙ f)) (λ f. inr (e ∙ f)) (next_col t)) inr (place_col (next_place b c t) j)

  -- A word is none of the places after it.
  pub not_after : (t : Ticket) (n : ℕ) → val t < b.first + b.size → n < b.size → among t (places b c t n) ≡ false
  unfolding place
  not_after t n h l =
      not_i _ (λ e. let r = among_at t n t e in absurd (omega (arith, place_inj t 0 (suc r.0) h (omega arith) (omega (arith, r.1)) r.2)))

-- The other colour does not matter before the end of the block.
pub places_short : (b : Block) (c c' : ℕ) (t : Ticket) (n : ℕ) → val t + n < b.first + b.size → places b c t n ≡ places b c' t n
unfolding places
places_short b c c' t zero h = refl
places_short b c c' t (suc n) h =
    rw (next_within b c t (omega arith), next_within b c' t (omega arith))
    (ap (λ (l : List Ticket). ticket (val t + 1) (col t) ∷ l) (places_short b c c' (ticket (val t + 1) (col t)) n (omega arith)))

-- Being among the n places after u, as a test that needs no list: in u's block above u, or in the next block.
unfoldable pub near : Block → ℕ → Ticket → ℕ → Ticket → Bool
near b c u n t = (eqb (col t) (col u) && ltb (val u) (val t) && leb (val t) (val u + n)) || (eqb (col t) c && leb (val t + b.size) (val u + n))

pub among_near : (b : Block) (c : ℕ) (u : Ticket) (n : ℕ) (t : Ticket) → val u < b.first + b.size → InBlock b t → n < b.size → near b c u n t ≡ among t (places b c u n)
unfolding near
among_near b c u n t hu ht hn =
    bool_ext _ _
    (λ e.
    ⊎_elim
    (λ f.
    let x : col t ≡ col u = eqb-true _ _ (and_l _ _ (and_l _ _ f)) in
    let y : val u < val t = ltb-true _ _ (and_r (eqb (col t) (col u)) _ (and_l _ _ f)) in
    let d : val t ≤ val u + n = leb-true _ _ (and_r (eqb (col t) (col u) && ltb (val u) (val t)) _ f) in
    among_i b c u n t (val t - val u - 1) (omega arith) (sym (place_within b c u _ (omega (arith, ht.high)) ∙ ap₂ ticket (omega arith) (sym x))))
    (λ f.
    let x : col t ≡ c = eqb-true _ _ (and_l _ _ f) in
    let d : val t + b.size ≤ val u + n = leb-true _ _ (and_r (eqb (col t) c) _ f) in
    among_i b c u n t (val t + b.size - val u - 1) (omega (arith, ht.low))
    (sym (place_wraps b c u _ hu (omega (arith, ht.low)) (omega (arith, ht.low, ht.high)) ∙ ap₂ ticket (omega (arith, ht.low)) (sym x))))
    (or_cases (eqb (col t) (col u) && ltb (val u) (val t) && leb (val t) (val u + n)) _ e))
    (λ e.
    let r = among_at b c u n t e in
    by_lt (val u + suc r.0) (b.first + b.size)
    (λ h.
    let q : t ≡ ticket (val u + suc r.0) (col u) = r.2 ∙ place_within b c u (suc r.0) h in
    let v : val t ≡ val u + suc r.0 = ap val q in
    or_l _ _ (and_i _ _ (and_i _ _ (eq-eqb _ _ (ap col q)) (lt-ltb (val u) (val t) (omega arith))) (le-leb (val t) (val u + n) (omega (arith, r.1)))))
    (λ h.
    let q : t ≡ ticket (val u + suc r.0 - b.size) c = r.2 ∙ place_wraps b c u (suc r.0) hu h (omega (arith, r.1)) in
    let v : val t ≡ val u + suc r.0 - b.size = ap val q in
    or_r (eqb (col t) (col u) && ltb (val u) (val t) && leb (val t) (val u + n)) _ (and_i _ _ (eq-eqb _ _ (ap col q)) (le-leb (val t + b.size) (val u + n) (omega (arith, r.1))))))

-- The distance without a remainder: from VALID's value up to the ticket's, and where that is the smaller, by the block's end.
module _ (b : Block) (g : Gate) (t : Ticket) (i : InBlock b t) (j : InBlock b g.valid) where
  pub distance_onward : val g.valid ≤ val t → val t - val g.valid ≡ distance_in b g t
  unfolding distance_in
  distance_onward h =
      let e : val t + b.size - val g.valid ≡ val t - val g.valid + b.size = omega arith in
      let l : val t - val g.valid < b.size = omega (arith, i.high, j.low) in
      sym (ap (λ (x : ℕ). x % b.size) e ∙ add-mod_right (val t - val g.valid) b.size ∙ mod-eq_of_lt l)

  pub distance_around : val t < val g.valid → val t + b.size - val g.valid ≡ distance_in b g t
  unfolding distance_in
  distance_around h =
      let l : val t + b.size - val g.valid < b.size = omega (arith, i.low, j.high) in
      sym (mod-eq_of_lt l)

  pub distance_compared : cond (leb (val g.valid) (val t)) (val t - val g.valid) (val t + b.size - val g.valid) ≡ distance_in b g t
  distance_compared =
      by_lt (val t) (val g.valid)
      (λ h. rw (lt-leb (val g.valid) (val t) h) (distance_around h))
      (λ h. rw (le-leb (val g.valid) (val t) h) (distance_onward h))
