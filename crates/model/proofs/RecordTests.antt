-- The tests of one record (holds, waits, holds another ticket ..): how each is met, and what it says.
use Prim.Native.Nat.{ℕ}
use mathlib.Core.Path.{ap, refl, sym, ◌∙◌, ◌≡◌}
use mathlib.Core.Bool.{Bool, false, not, true, ◌&&◌, ◌||◌}
use mathlib.Core.List.{List, [], ◌++◌, ◌∷◌}
use mathlib.Core.Logic.{◌≢◌}
use native.Mathlib.Omega.{arith}
use lib.Dec.{eqb}
use borrow.Author.Tests.{eq-eqb, eqb-false, eqb-true, ne_eqb, not-true}
use Rattle.model.specs.declared.Record.{Record}
use Rattle.model.specs.declared.Ticket.{Ticket}
use Rattle.model.specs.Lists.{any}
use Rattle.model.specs.Sound.{among, held, holds, holds_other, inside, ticket_of, waiting}
use Rattle.model.specs.Steps.{same_ticket}
use Rattle.model.proofs.Blocks.{same_refl, same_true}
use Rattle.model.proofs.Logic.{and_i, and_l, and_r, by_bool, not_i, not_not, or_l, or_r}

-- r waits with the ticket t.
abbrev pub waits : Ticket → Record → Bool
waits t r = waiting r && same_ticket t (ticket_of r)

-- r holds a ticket of the colour c that is none of those places.
abbrev pub holds_other_in : List Ticket → ℕ → Record → Bool
holds_other_in ps c r = holds_other ps r && eqb r.colour.0 c

-- r holds one of the tickets.
abbrev pub holds_one_of : List Ticket → Record → Bool
holds_one_of ps r = held r && among (ticket_of r) ps

module _ (r : Record) where
  pub held_i : r.region ≢ 0 → held r ≡ true
  held_i n = not_not (eqb r.region 0) (ne_eqb _ _ n)

  pub held_not : r.region ≡ 0 → held r ≡ false
  held_not e = ap not (eq-eqb r.region 0 e)

  pub held_use : held r ≡ true → r.region ≢ 0
  held_use e = eqb-false _ _ (not-true (eqb r.region 0) e)

  pub inside_region : inside r ≡ true → r.region ≡ 2
  inside_region e = eqb-true r.region 2 e

  pub inside_held : inside r ≡ true → held r ≡ true
  inside_held e = held_i (λ z. omega (arith, inside_region e))

  pub holds_i : (t : Ticket) → held r ≡ true → t ≡ ticket_of r → holds t r ≡ true
  holds_i t h e = and_i (held r) (same_ticket t (ticket_of r)) h (same_refl t (ticket_of r) e)

  pub holds_held : (t : Ticket) → holds t r ≡ true → held r ≡ true
  holds_held t e = and_l (held r) (same_ticket t (ticket_of r)) e

  pub holds_is : (t : Ticket) → holds t r ≡ true → t ≡ ticket_of r
  holds_is t e = same_true t (ticket_of r) (and_r (held r) (same_ticket t (ticket_of r)) e)

  pub waits_i : (t : Ticket) → r.region ≡ 1 → t ≡ ticket_of r → waits t r ≡ true
  waits_i t h e = and_i (waiting r) (same_ticket t (ticket_of r)) (eq-eqb _ _ h) (same_refl t (ticket_of r) e)

  pub waits_region : (t : Ticket) → waits t r ≡ true → r.region ≡ 1
  waits_region t e = eqb-true _ _ (and_l (waiting r) (same_ticket t (ticket_of r)) e)

  pub waits_is : (t : Ticket) → waits t r ≡ true → t ≡ ticket_of r
  waits_is t e = same_true t (ticket_of r) (and_r (waiting r) (same_ticket t (ticket_of r)) e)

  pub waits_holds : (t : Ticket) → waits t r ≡ true → holds t r ≡ true
  waits_holds t e = holds_i t (held_i (λ z. omega (arith, waits_region t e))) (waits_is t e)

  pub other_i : (ps : List Ticket) → held r ≡ true → among (ticket_of r) ps ≡ false → holds_other ps r ≡ true
  other_i ps h e = and_i (held r) (not (among (ticket_of r) ps)) h (not_not _ e)

  pub other_held : (ps : List Ticket) → holds_other ps r ≡ true → held r ≡ true
  other_held ps e = and_l (held r) (not (among (ticket_of r) ps)) e

  pub other_not : (ps : List Ticket) → holds_other ps r ≡ true → among (ticket_of r) ps ≡ false
  other_not ps e = not-true _ (and_r (held r) (not (among (ticket_of r) ps)) e)

  pub other_in_i : (ps : List Ticket) (c : ℕ) → held r ≡ true → among (ticket_of r) ps ≡ false → r.colour.0 ≡ c → holds_other_in ps c r ≡ true
  other_in_i ps c h e q = and_i (holds_other ps r) (eqb r.colour.0 c) (other_i ps h e) (eq-eqb _ _ q)

  -- An idle record meets none of them.
  pub holds_idle : (t : Ticket) → r.region ≡ 0 → holds t r ≡ false
  holds_idle t e = ap (λ (b : Bool). b && same_ticket t (ticket_of r)) (held_not e)

  pub other_idle : (ps : List Ticket) → r.region ≡ 0 → holds_other ps r ≡ false
  other_idle ps e = ap (λ (b : Bool). b && not (among (ticket_of r) ps)) (held_not e)

  pub other_in_idle : (ps : List Ticket) (c : ℕ) → r.region ≡ 0 → holds_other_in ps c r ≡ false
  other_in_idle ps c e = ap (λ (b : Bool). b && eqb r.colour.0 c) (other_idle ps e)

  pub waits_other : (t : Ticket) → r.region ≢ 1 → waits t r ≡ false
  waits_other t e = ap (λ (b : Bool). b && same_ticket t (ticket_of r)) (ne_eqb _ _ e)

  -- Tests by two lists of places that say the same of r's ticket.
  pub other_cong : (ps qs : List Ticket) → (held r ≡ true → among (ticket_of r) ps ≡ among (ticket_of r) qs) → holds_other ps r ≡ holds_other qs r
  other_cong ps qs f =
      by_bool (held r)
      (λ h. ap (λ (b : Bool). held r && not b) (f h))
      (λ h. ap (λ (b : Bool). b && not (among (ticket_of r) ps)) h ∙ sym (ap (λ (b : Bool). b && not (among (ticket_of r) qs)) h))

  pub other_in_cong : (ps qs : List Ticket) (c : ℕ) → (held r ≡ true → among (ticket_of r) ps ≡ among (ticket_of r) qs) → holds_other_in ps c r ≡ holds_other_in qs c r
  other_in_cong ps qs c f = ap (λ (b : Bool). b && eqb r.colour.0 c) (other_cong ps qs f)

-- Being in a list of tickets.
pub among_here : (t : Ticket) (ps : List Ticket) → among t (t ∷ ps) ≡ true
unfolding any
among_here t ps = or_l (same_ticket t t) (among t ps) (same_refl t t refl)

pub among_there : (t x : Ticket) (ps : List Ticket) → among t ps ≡ true → among t (x ∷ ps) ≡ true
unfolding any
among_there t x ps e = or_r (same_ticket t x) (among t ps) e

pub among_cons_not : (t x : Ticket) (ps : List Ticket) → t ≢ x → among t (x ∷ ps) ≡ among t ps
unfolding any
among_cons_not t x ps n = ap (λ (b : Bool). b || among t ps) (not_i (same_ticket t x) (λ e. n (same_true t x e)))

pub among_nil : (t : Ticket) → among t [] ≡ false
unfolding any
among_nil t = refl

pub among_snoc_not : (t x : Ticket) (ps : List Ticket) → t ≢ x → among t (ps ++ (x ∷ [])) ≡ among t ps
unfolding any
among_snoc_not t x [] n = among_cons_not t x [] n
among_snoc_not t x (y ∷ ps) n = ap (λ (b : Bool). same_ticket t y || b) (among_snoc_not t x ps n)

pub among_last : (x : Ticket) (ps : List Ticket) → among x (ps ++ (x ∷ [])) ≡ true
unfolding any
among_last x [] = among_here x []
among_last x (y ∷ ps) = or_r (same_ticket x y) _ (among_last x ps)
