-- The other held tickets, those that are none of the places after VALID: how their codes are kept, and what soundness asks of them, told by
-- their codes.
--
-- Main statements: `covers_more` (one code more), `OthersRight` (what is asked of them), `code_holds` (a code stands for a ticket).
use Prim.Native.Nat.{ℕ, ◌%◌, ◌+◌, ◌<◌, ◌≤◌}
use mathlib.Core.Path.{ap, ap₂, refl, sym, ◌∙◌, ◌≡◌}
use mathlib.Core.Bool.{Bool, false, true, ◌&&◌, ◌||◌}
use mathlib.Core.List.{List, [], ◌++◌, ◌∷◌}
use native.Mathlib.Nat.{mod-lt}
use native.Mathlib.Omega.{arith}
use Rattle.soundness.proofs.Loops.{any_snoc}
use lib.ListN.{get_or, length, replicate, set}
use lib.Seq.{get_or-set_other, get_or-set_same}
use lib.Dec.{eqb}
use borrow.Author.Tests.{eq-eqb, eqb-true, ne_eqb}
use Rattle.model.specs.declared.Record.{Record}
use Rattle.model.specs.declared.Ticket.{Ticket}
use Rattle.ranges.specs.declared.lead.Lead.{Lead}
use Rattle.model.specs.Calls.{idle_record}
use Rattle.model.specs.Lists.{any, count}
use Rattle.model.specs.Sound.{among, holds, holds_other, ticket_of}
use Rattle.model.specs.Steps.{col, ticket, val}
use Rattle.ranges.specs.Lead.{pending_of}
use Rattle.soundness.specs.Others.{Covers, code_of}
use Rattle.model.proofs.Counting.{count_same}
use Rattle.model.proofs.IsSound.{Each}
use Rattle.model.proofs.Logic.{and_i, and_l, and_r, bool_ext, by_eq, clash}
use Rattle.model.proofs.RecordTests.{holds_held, holds_i, holds_is, other_held, other_i}

-- The codes that are kept, and their residues: none at first, and one more.
pub covers_none : (m : ℕ) → 0 < m → Covers m (replicate m false) []
unfolding any
covers_none m h = record { some = h; none = λ x e. refl }

pub covers_more : {m : ℕ} {codes : List ℕ} {seen : List Bool} (x : ℕ) {u : ℕ} → length seen ≡ m → u ≡ x % m → Covers m seen codes
    → Covers m (set seen u true) (codes ++ (x ∷ []))
covers_more {m} {codes} {seen} x {u} ls e q =
    record {
      some = q.some;
      none = λ y z.
          by_eq (x % m) (y % m)
          (λ g.
          clash _
          (ap (λ (v : ℕ). get_or (set seen u true) v false) (sym g ∙ sym e) ∙ get_or-set_same seen u true false (omega (arith, e, ls, mod-lt x {m = m} q.some)))
          z)
          (λ g.
          let s = get_or-set_other seen u (y % m) true false (λ v. g (sym e ∙ sym v)) in
          any_snoc (λ v. eqb v y) codes x
          ∙ ap₂ (λ (a b : Bool). a || b) (q.none y (sym s ∙ z)) (ne_eqb x y (λ v. g (ap (λ (w : ℕ). w % m) v))));
    }

-- r holds another ticket, whose code is x.
unfoldable pub holds_code : Lead → ℕ → Record → Bool
holds_code w x r = holds_other (pending_of w) r && eqb (code_of r.value.0 r.colour.0) x

-- They number k, less d if d is positive; no two records hold one; and if d is 0 or less, VALID's own ticket is one of them.
pub record OthersRight (w : Lead) (l : List Record) : Type 0 where
  pub number : count (holds_other (pending_of w)) l + w.ahead ≡ w.k
  pub once : (x : ℕ) → count (holds_code w x) l ≤ 1
  pub own : w.ahead ≡ 0 → 0 < count (holds_code w (code_of (val w.valid) (col w.valid))) l

-- A ticket that is none of the places, told by its code.
code_holds : (w : Lead) (r : Record) (t : Ticket) → col t ≤ 64 → r.colour.0 ≤ 64 → among t (pending_of w) ≡ false
    → holds t r ≡ holds_code w (code_of (val t) (col t)) r
unfolding holds_code
code_holds w r t a b n =
    bool_ext _ _
    (λ e.
    let q : t ≡ ticket_of r = holds_is r t e in
    and_i (holds_other (pending_of w) r) _ (other_i r (pending_of w) (holds_held r t e) (ap (λ (x : Ticket). among x (pending_of w)) (sym q) ∙ n))
    (eq-eqb _ _ (ap (λ (x : Ticket). code_of (val x) (col x)) (sym q))))
    (λ e.
    let p : holds_other (pending_of w) r ≡ true = and_l (holds_other (pending_of w) r) _ e in
    let q : code_of r.value.0 r.colour.0 ≡ code_of (val t) (col t) = eqb-true _ _ (and_r (holds_other (pending_of w) r) _ e) in
    holds_i r t (other_held r (pending_of w) p) (ap₂ ticket (omega arith) (omega arith)))

pub code_count : (w : Lead) (l : List Record) → w.k ≤ 64 → Each (λ r. r.colour.0 ≤ w.k) l → (t : Ticket) → col t ≤ 64 → among t (pending_of w) ≡ false
    → count (holds t) l ≡ count (holds_code w (code_of (val t) (col t))) l
code_count w l h f t a n = count_same _ _ l idle_record (λ i z. code_holds w _ t a (omega (arith, f i z)) n)
