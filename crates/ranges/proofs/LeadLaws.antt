-- The lead: the bounds of what is read of words that are in range.
--
-- Main statements: `lead_asks` (what counting the places between the words asks), `lead_test` (the code's test of the lead is document 01's), `lead_bounds`.
use Prim.Native.Nat.{ℕ, ◌+◌, ◌-◌, ◌<◌, ◌≤◌}
use mathlib.Core.Path.{ap, subst, sym, ◌≡◌}
use mathlib.Core.Bool.{true, ◌&&◌}
use mathlib.Core.Logic.{◌≢◌}
use native.Mathlib.Omega.{arith}
use lib.Dec.{leb}
use borrow.Author.Tests.{eqb-false, le-leb, leb-true, lt-ltb, ne_eqb, not-true}
use Rattle.model.specs.declared.Gate.{Gate}
use Rattle.model.specs.declared.Ticket.{Ticket}
use Rattle.ranges.specs.declared.lead.Lead.{Lead}
use Rattle.model.specs.Sound.{ahead_of, behind, behind_of, lead_in_range, lead_range_in, words_in_range}
use Rattle.model.specs.Steps.{Block, InBlock, block_of, col, leads, val}
use Rattle.ranges.specs.Lead.{Apart, LeadBounds, lead_of, leads_anew}
use Rattle.model.proofs.Logic.{and_i, and_l, and_r}
use Rattle.model.proofs.Moves.{less_leads}
use Rattle.ranges.proofs.RangeLaws.{WordsInRange, last_most, words_fit, words_use}

-- VALID is not behind ISSUE where its value is the smaller and the colours differ ..
behind_less : (m : ℕ) (i v : Ticket) → col i ≢ col v → val v < val i → 0 ≡ behind m i v
unfolding behind
behind_less m i v e h = simp (ne_eqb _ _ e, lt-ltb _ _ h)

-- .. as where it leads in a colour of its own.
pub anew_behind : (m : ℕ) (i v : Ticket) → leads_anew i v ≡ true → behind m i v ≡ 0
anew_behind m i v e =
    let n : col i ≢ col v = eqb-false _ _ (not-true _ (and_r (leads v i) _ e)) in
    sym (behind_less m i v n (less_leads v i (λ x. n (sym x)) (and_l (leads v i) _ e)))

-- Two values of one block.
pub apart : (b : Block) (t u : Ticket) → b.first + b.size ≤ 1025 → InBlock b t → InBlock b u → Apart b.size (val t) (val u)
apart b t u h i j =
    record {
      size_most = omega arith;
      first_most = omega (arith, i.high);
      second_most = omega (arith, j.high);
      first_near = omega (arith, i.high, j.low);
      second_near = omega (arith, i.low, j.high);
    }

-- What counting the places between the words asks, where m is the block's size.
pub lead_asks : (g : Gate) (m : ℕ) → m ≡ (block_of g).size → words_in_range g ≡ true → Apart m (val g.issue) (val g.valid)
lead_asks g m e h =
    let s = words_use g h in
    subst (λ (x : ℕ). Apart x (val g.issue) (val g.valid)) (sym e)
    (apart (block_of g) g.issue g.valid (last_most g.year g.n g.k s.n_high s.k_high) s.issue_in s.valid_in_lem)

-- What is read holds the lead that document 01 tests.
module _ (g : Gate) (w : Lead) (e : w ≡ lead_of g) where
  pub lead_test : (leb w.ahead w.k && leb w.behind (g.n - w.k)) ≡ lead_in_range g
  unfolding lead_of lead_range_in
  lead_test = ap (λ (x : Lead). leb x.ahead x.k && leb x.behind (g.n - x.k)) e

-- The lead is in range.
pub lead_use : (g : Gate) → lead_in_range g ≡ true → (ahead_of g ≤ g.k) × (behind_of g ≤ g.n - g.k)
unfolding lead_range_in
lead_use g e = (leb-true _ _ (and_l _ _ e), leb-true _ _ (and_r (leb (ahead_of g) g.k) _ e))

pub lead_i : (g : Gate) → ahead_of g ≤ g.k → behind_of g ≤ g.n - g.k → lead_in_range g ≡ true
unfolding lead_range_in
lead_i g a b = and_i _ _ (le-leb _ _ a) (le-leb _ _ b)

pub lead_bounds : (g : Gate) → WordsInRange g → ahead_of g ≤ g.k → behind_of g ≤ g.n - g.k → LeadBounds (lead_of g)
unfolding lead_of
lead_bounds g s a b =
    record {
      last_most = last_most g.year g.n g.k s.n_high s.k_high;
      k_most = s.k_high;
      issue_in = s.issue_in;
      valid_in_lem = s.valid_in_lem;
      issue_colour = s.issue_col;
      valid_colour = s.valid_col;
      ahead_most = a;
      behind_below = omega (arith, (words_fit g s).above_rest);
      anew_not_behind = anew_behind _ g.issue g.valid;
    }
