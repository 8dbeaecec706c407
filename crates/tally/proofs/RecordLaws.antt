-- One record by itself: what it means that it breaks no clause.
--
-- Main statements: `record_range`, `record_issue`, `record_anew`, `record_inside` (what a record is that breaks no clause by itself),
-- `record_sound_i` (and what is such a record).
use Prim.Native.Nat.{◌≤◌}
use mathlib.Core.Path.{◌≡◌}
use mathlib.Core.Bool.{Bool, false, true, ◌&&◌}
use mathlib.Core.Logic.{◌≢◌}
use lib.Dec.{eqb}
use borrow.Author.Tests.{eq-eqb, eqb-false, eqb-true, le-leb, leb-true, ne_eqb, not-true}
use Rattle.model.specs.declared.Record.{Record}
use Rattle.ranges.specs.declared.lead.Lead.{Lead}
use Rattle.model.specs.Sound.{among, held, inside, record_in_range, ticket_of}
use Rattle.model.specs.Steps.{col, val}
use Rattle.ranges.specs.Lead.{lead_block, pending_of}
use Rattle.tally.specs.Bins.{below_issue, colour_unheld, keeps_clauses, no_place_inside, record_sound}
use Rattle.model.proofs.IsSound.{RecordInRange, record_i, record_use}
use Rattle.model.proofs.Logic.{and_i, and_l, and_r, clash, implies_i, implies_use, not_i, not_not}

-- The three clauses of `keeps_clauses`.
module _ (w : Lead) (r : Record) where
  abbrev in_range : Bool
  in_range = record_in_range (lead_block w) w.k r

  pub keeps_i : in_range ≡ true → below_issue w r ≡ true → colour_unheld w r ≡ true → keeps_clauses w r ≡ true
  unfolding keeps_clauses
  keeps_i a b c = and_i (in_range && below_issue w r) (colour_unheld w r) (and_i in_range (below_issue w r) a b) c

  pub keeps_range : keeps_clauses w r ≡ true → in_range ≡ true
  unfolding keeps_clauses
  keeps_range e = and_l in_range (below_issue w r) (and_l (in_range && below_issue w r) (colour_unheld w r) e)

  pub keeps_issue : keeps_clauses w r ≡ true → below_issue w r ≡ true
  unfolding keeps_clauses
  keeps_issue e = and_r in_range (below_issue w r) (and_l (in_range && below_issue w r) (colour_unheld w r) e)

  pub keeps_unheld : keeps_clauses w r ≡ true → colour_unheld w r ≡ true
  unfolding keeps_clauses
  keeps_unheld e = and_r (in_range && below_issue w r) (colour_unheld w r) e

-- What a record is that breaks no clause by itself.
module _ (w : Lead) (r : Record) (e : record_sound w r ≡ true) where
  keeps : keeps_clauses w r ≡ true
  unfolding record_sound
  keeps = and_l (keeps_clauses w r) (no_place_inside w r) e

  pub record_range : RecordInRange (lead_block w) w.k r
  record_range = record_use (lead_block w) w.k r (keeps_range w r keeps)

  pub record_issue : held r ≡ true → r.colour.0 ≡ col w.issue → r.value.0 ≤ val w.issue
  record_issue a b =
      leb-true _ _ (implies_use (held r && eqb r.colour.0 (col w.issue)) _ (keeps_issue w r keeps) (and_i (held r) _ a (eq-eqb _ _ b)))

  pub record_anew : w.anew ≡ true → held r ≡ true → r.colour.0 ≢ col w.valid
  record_anew f a = eqb-false _ _ (not-true _ (implies_use (held r) _ (implies_use w.anew _ (keeps_unheld w r keeps) f) a))

  pub record_inside : inside r ≡ true → among (ticket_of r) (pending_of w) ≡ false
  unfolding record_sound
  record_inside a =
      not_i _ (λ q. clash _ (and_i (inside r) _ a q) (not-true (inside r && among (ticket_of r) (pending_of w)) (and_r (keeps_clauses w r) (no_place_inside w r) e)))

-- A record that breaks no clause by itself.
pub record_sound_i : (w : Lead) (r : Record) → RecordInRange (lead_block w) w.k r
    → (held r ≡ true → r.colour.0 ≡ col w.issue → r.value.0 ≤ val w.issue) → (w.anew ≡ true → held r ≡ true → r.colour.0 ≢ col w.valid)
    → (inside r ≡ true → among (ticket_of r) (pending_of w) ≡ false) → record_sound w r ≡ true
unfolding record_sound
record_sound_i w r range below unheld none =
    and_i (keeps_clauses w r) (no_place_inside w r)
    (keeps_i w r (record_i (lead_block w) w.k r range)
    (implies_i (held r && eqb r.colour.0 (col w.issue)) _ (λ e. le-leb _ _ (below (and_l (held r) _ e) (eqb-true _ _ (and_r (held r) _ e)))))
    (implies_i w.anew _ (λ e. implies_i (held r) _ (λ p. not_not _ (ne_eqb _ _ (unheld e p))))))
    (not_not _ (not_i _ (λ e. clash _ (and_r (inside r) _ e) (none (and_l (inside r) _ e)))))
