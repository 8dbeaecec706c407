-- What the test `alike_in` decides, as facts: `IsAlike`; `alike_use` and `alike_i` turn the one into the other.
use Prim.Native.Nat.{ℕ, ◌<◌}
use mathlib.Core.Path.{refl, sym, ◌≡◌}
use mathlib.Core.Bool.{Bool, false, true, ◌&&◌}
use mathlib.Core.List.{List}
use lib.ListN.{get_or}
use lib.Dec.{eqb}
use borrow.Author.Tests.{eq-eqb, eqb-true}
use Rattle.model.specs.declared.Gate.{Gate}
use Rattle.model.specs.declared.Record.{Record}
use Rattle.model.specs.Calls.{idle_record}
use Rattle.model.specs.Alike.{agree, alike_in, before_in, holds_invalid, same_order, same_plugin}
use Rattle.model.specs.Lists.{all_below}
use Rattle.model.specs.Sound.{held, ticket_of}
use Rattle.model.specs.Steps.{Block, is_valid}
use Rattle.model.proofs.Counting.{below_at, below_i}
use Rattle.model.proofs.Logic.{and_i, and_l, and_r, implies_i, implies_use}

agree_use : (x y : Bool) → agree x y ≡ true → x ≡ y
agree_use true true e = refl
agree_use true false e = sym e
agree_use false true e = e
agree_use false false e = refl

agree_i : (x y : Bool) → x ≡ y → agree x y ≡ true
agree_i true true e = refl
agree_i true false e = sym e
agree_i false true e = e
agree_i false false e = refl

-- Of one plugin.
pub record SamePlugin (g : Gate) (r : Record) (h : Gate) (s : Record) : Type 0 where
  pub region_same : r.region ≡ s.region
  pub mark_same : r.mark ≡ s.mark
  pub valid_same : held r ≡ true → is_valid g (ticket_of r) ≡ is_valid h (ticket_of s)

plugin_use : (g : Gate) (r : Record) (h : Gate) (s : Record) → same_plugin g r h s ≡ true → SamePlugin g r h s
unfolding same_plugin
plugin_use g r h s e =
    let a = and_l (eqb r.region s.region && eqb r.mark s.mark) _ e in
    record {
      region_same = eqb-true _ _ (and_l _ _ a);
      mark_same = eqb-true _ _ (and_r (eqb r.region s.region) _ a);
      valid_same = λ hd. agree_use _ _ (implies_use (held r) _ (and_r (eqb r.region s.region && eqb r.mark s.mark) _ e) hd);
    }

plugin_i : (g : Gate) (r : Record) (h : Gate) (s : Record) → SamePlugin g r h s → same_plugin g r h s ≡ true
unfolding same_plugin
plugin_i g r h s a =
    and_i (eqb r.region s.region && eqb r.mark s.mark) _
    (and_i (eqb r.region s.region) _ (eq-eqb _ _ a.region_same) (eq-eqb _ _ a.mark_same))
    (implies_i (held r) _ (λ hd. agree_i _ _ (a.valid_same hd)))

module _ (B : Block) (g : Gate) (l : List Record) (C : Block) (h : Gate) (m : List Record) where
  -- Record i of each list.
  abbrev at : ℕ → Record
  at i = get_or l i idle_record

  abbrev at' : ℕ → Record
  at' i = get_or m i idle_record

  pub record IsAlike : Type 0 where
    pub n_same : g.n ≡ h.n
    pub k_same : g.k ≡ h.k
    pub plugin_same : (i : ℕ) → i < g.n → SamePlugin g (at i) h (at' i)
    pub order_same : (i j : ℕ) → i < g.n → j < g.n → holds_invalid g (at i) ≡ true → holds_invalid g (at j) ≡ true
        → before_in B g (at i) (at j) ≡ before_in C h (at' i) (at' j)

  abbrev order-test : ℕ → ℕ → Bool
  order-test i j = same_order B g (at i) (at j) C h (at' i) (at' j)

  abbrev Tests : Type 0
  Tests =
      (eqb g.n h.n ≡ true) × (eqb g.k h.k ≡ true) × (all_below (λ i. same_plugin g (at i) h (at' i)) g.n ≡ true)
      × (all_below (λ i. all_below (λ j. order-test i j) g.n) g.n ≡ true)

  tests : alike_in B g l C h m ≡ true → Tests
  unfolding alike_in
  tests e = search (and_l, and_r) depth 6

  tests_i : Tests → alike_in B g l C h m ≡ true
  unfolding alike_in
  tests_i t = search and_i depth 6

  order_use : (i j : ℕ) → order-test i j ≡ true → holds_invalid g (at i) ≡ true → holds_invalid g (at j) ≡ true
      → before_in B g (at i) (at j) ≡ before_in C h (at' i) (at' j)
  unfolding same_order
  order_use i j e a b =
      agree_use _ _ (implies_use (holds_invalid g (at i) && holds_invalid g (at j)) _ e (and_i (holds_invalid g (at i)) _ a b))

  order_i : (i j : ℕ) → (holds_invalid g (at i) ≡ true → holds_invalid g (at j) ≡ true → before_in B g (at i) (at j) ≡ before_in C h (at' i) (at' j)) → order-test i j ≡ true
  unfolding same_order
  order_i i j f =
      implies_i (holds_invalid g (at i) && holds_invalid g (at j)) _
      (λ e. agree_i _ _ (f (and_l (holds_invalid g (at i)) _ e) (and_r (holds_invalid g (at i)) _ e)))

  pub alike_use : alike_in B g l C h m ≡ true → IsAlike
  alike_use e =
      let t = tests e in
      record {
        n_same = eqb-true _ _ t.0;
        k_same = eqb-true _ _ t.1;
        plugin_same = λ i b. plugin_use _ _ _ _ (below_at _ g.n t.2 i b);
        order_same = λ i j a b. order_use i j (below_at (λ y. order-test i y) g.n (below_at (λ x. all_below (λ y. order-test x y) g.n) g.n t.3 i a) j b);
      }

  pub alike_i : IsAlike → alike_in B g l C h m ≡ true
  alike_i a =
      tests_i (
        eq-eqb _ _ a.n_same,
        eq-eqb _ _ a.k_same,
        below_i (λ i. same_plugin g (at i) h (at' i)) g.n (λ i b. plugin_i _ _ _ _ (a.plugin_same i b)),
        below_i (λ x. all_below (λ y. order-test x y) g.n) g.n (λ i b. below_i (λ y. order-test i y) g.n (λ j c. order_i i j (a.order_same i j b c))),
      )
