-- The four rules of validity, of any words and any ticket: `rules_apply`; and a look's verdict and its rule say the same: `verdict_agrees`.
use Prim.Native.Nat.{ℕ, ◌≤◌, ◌<◌}
use mathlib.Core.Path.{◌≡◌, refl, ap, ap₂, sym, ◌∙◌}
use mathlib.Core.Bool.{Bool, true, false, not, ◌&&◌, ◌||◌}
use mathlib.Core.List.{List}
use native.Mathlib.Omega.{arith}
use lib.ListN.{length}
use lib.Dec.{eqb, ltb, leb}
use borrow.Author.Tests.{eq-eqb, le-leb, le-ltb, lt-leb, lt-ltb, ne_eqb}
use Rattle.model.specs.declared.Call.{Call}
use Rattle.model.specs.declared.Call.TheVariants.{Leave, Look, Place, Stop, Take, Wake}
use Rattle.model.specs.declared.Gate.{Gate}
use Rattle.model.specs.declared.Record.{Record}
use Rattle.model.specs.declared.Rule.{Rule}
use Rattle.model.specs.declared.Rule.TheVariants.{NotAbove, Above, Counted, NotCounted}
use Rattle.model.specs.declared.Ticket.{Ticket}
use Rattle.model.specs.Lists.{count}
use Rattle.model.specs.Rules.{RuleApplies, RulesApply, count_of, other_counted, other_not_counted, rule_agrees, rule_of, rule_says, same_above, same_colour, same_not_above}
use Rattle.model.specs.Sound.{idle, sound, ticket_of}
use Rattle.model.specs.Calls.{Outcome, call, called_in, left_in, looked, marked, placed_in, record_of, refuse, taken_in, waits_invalid}
use Rattle.model.specs.Steps.{Block, block_of, col, is_valid, val}
use Rattle.model.proofs.Logic.{and_false, and_i, by_bool, by_lt, clash, not_not}
use Rattle.model.specs.declared.Refusal.{Refusal}
use Rattle.model.specs.declared.Refusal.TheVariants.{IsStopped, WrongRegion}

-- The four conditions, the rule and the validity have these values.
record Case (g : Gate) (t : Ticket) (b1 b2 b3 b4 : Bool) (r : Rule) : Type 0 where
  first : same_not_above g t ≡ b1
  second : same_above g t ≡ b2
  third : other_counted g t ≡ b3
  fourth : other_not_counted g t ≡ b4
  rule : rule_of g t ≡ r
  valid : is_valid g t ≡ rule_says r

module _ (g : Gate) (t : Ticket) where
  same_low : same_colour g t ≡ true → val t ≤ val g.valid → Case g t true false false false (NotAbove t.value g.valid.value)
  unfolding same_not_above same_above other_counted other_not_counted rule_of is_valid
  same_low a h = record {
    first = and_i _ _ a (le-leb _ _ h);
    second = ap (λ (b : Bool). same_colour g t && b) (le-ltb (val g.valid) (val t) h) ∙ and_false (same_colour g t);
    third = ap (λ (b : Bool). not b && ltb 0 (count_of g (col t))) a;
    fourth = ap (λ (b : Bool). not b && eqb (count_of g (col t)) 0) a;
    rule = simp (a, le-leb (val t) (val g.valid) h);
    valid = simp (a, le-leb (val t) (val g.valid) h);
  }

  same_high : same_colour g t ≡ true → val g.valid < val t → Case g t false true false false (Above t.value g.valid.value)
  unfolding same_not_above same_above other_counted other_not_counted rule_of is_valid
  same_high a h = record {
    first = ap (λ (b : Bool). same_colour g t && b) (lt-leb (val t) (val g.valid) h) ∙ and_false (same_colour g t);
    second = and_i _ _ a (lt-ltb _ _ h);
    third = ap (λ (b : Bool). not b && ltb 0 (count_of g (col t))) a;
    fourth = ap (λ (b : Bool). not b && eqb (count_of g (col t)) 0) a;
    rule = simp (a, lt-leb (val t) (val g.valid) h);
    valid = simp (a, lt-leb (val t) (val g.valid) h);
  }

  other_some : same_colour g t ≡ false → 0 < count_of g (col t) → Case g t false false true false (Counted t.colour (count_of g (col t)))
  unfolding same_not_above same_above other_counted other_not_counted rule_of is_valid
  other_some a h = record {
    first = ap (λ (b : Bool). b && leb (val t) (val g.valid)) a;
    second = ap (λ (b : Bool). b && ltb (val g.valid) (val t)) a;
    third = and_i _ _ (not_not _ a) (lt-ltb 0 (count_of g (col t)) h);
    fourth = ap (λ (b : Bool). not (same_colour g t) && b) (ne_eqb (count_of g (col t)) 0 (λ e. omega arith)) ∙ and_false (not (same_colour g t));
    rule = simp (a, lt-ltb 0 (count_of g (col t)) h);
    valid = simp (a, lt-ltb 0 (count_of g (col t)) h);
  }

  other_none : same_colour g t ≡ false → count_of g (col t) ≡ 0 → Case g t false false false true (NotCounted t.colour (count_of g (col t)))
  unfolding same_not_above same_above other_counted other_not_counted rule_of is_valid
  other_none a h = record {
    first = ap (λ (b : Bool). b && leb (val t) (val g.valid)) a;
    second = ap (λ (b : Bool). b && ltb (val g.valid) (val t)) a;
    third = ap (λ (b : Bool). not (same_colour g t) && b) (le-ltb 0 (count_of g (col t)) (omega arith)) ∙ and_false (not (same_colour g t));
    fourth = and_i _ _ (not_not _ a) (eq-eqb (count_of g (col t)) 0 h);
    rule = simp (a, le-ltb 0 (count_of g (col t)) (omega arith));
    valid = simp (a, le-ltb 0 (count_of g (col t)) (omega arith));
  }

  same_low_applies : Case g t true false false false (NotAbove t.value g.valid.value) → RuleApplies g t
  unfolding count
  same_low_applies c = record {
    one_met = rw (c.first, c.second, c.third, c.fourth) refl;
    if_not_above = λ e. c.rule;
    if_above = λ e. clash _ e c.second;
    if_counted = λ e. clash _ e c.third;
    if_not_counted = λ e. clash _ e c.fourth;
    valid_if = c.valid ∙ sym (ap₂ (λ (x y : Bool). x || y) c.first c.third);
    valid_says = c.valid ∙ ap rule_says (sym c.rule);
  }

  same_high_applies : Case g t false true false false (Above t.value g.valid.value) → RuleApplies g t
  unfolding count
  same_high_applies c = record {
    one_met = rw (c.first, c.second, c.third, c.fourth) refl;
    if_not_above = λ e. clash _ e c.first;
    if_above = λ e. c.rule;
    if_counted = λ e. clash _ e c.third;
    if_not_counted = λ e. clash _ e c.fourth;
    valid_if = c.valid ∙ sym (ap₂ (λ (x y : Bool). x || y) c.first c.third);
    valid_says = c.valid ∙ ap rule_says (sym c.rule);
  }

  other_some_applies : Case g t false false true false (Counted t.colour (count_of g (col t))) → RuleApplies g t
  unfolding count
  other_some_applies c = record {
    one_met = rw (c.first, c.second, c.third, c.fourth) refl;
    if_not_above = λ e. clash _ e c.first;
    if_above = λ e. clash _ e c.second;
    if_counted = λ e. c.rule;
    if_not_counted = λ e. clash _ e c.fourth;
    valid_if = c.valid ∙ sym (ap₂ (λ (x y : Bool). x || y) c.first c.third);
    valid_says = c.valid ∙ ap rule_says (sym c.rule);
  }

  other_none_applies : Case g t false false false true (NotCounted t.colour (count_of g (col t))) → RuleApplies g t
  unfolding count
  other_none_applies c = record {
    one_met = rw (c.first, c.second, c.third, c.fourth) refl;
    if_not_above = λ e. clash _ e c.first;
    if_above = λ e. clash _ e c.second;
    if_counted = λ e. clash _ e c.third;
    if_not_counted = λ e. c.rule;
    valid_if = c.valid ∙ sym (ap₂ (λ (x y : Bool). x || y) c.first c.third);
    valid_says = c.valid ∙ ap rule_says (sym c.rule);
  }

  rules : RuleApplies g t
  rules =
      by_bool (same_colour g t)
      (λ a. by_lt (val g.valid) (val t) (λ h. same_high_applies (same_high a h)) (λ h. same_low_applies (same_low a h)))
      (λ a. by_lt 0 (count_of g (col t)) (λ h. other_some_applies (other_some a h)) (λ h. other_none_applies (other_none a (omega arith))))

pub rules_apply : RulesApply
rules_apply g t = rules g t

-- A look's verdict and its rule.
refuse_verdict : (b : Bool) (n : Refusal) (g : Gate) (l : List Record) (o : Outcome) → rule_agrees o.answer ≡ true → rule_agrees (refuse b n g l o).answer ≡ true
refuse_verdict true n g l o h = refl
refuse_verdict false n g l o h = h

module _ (b : Block) (g : Gate) (l : List Record) (p : ℕ) where
  look_verdict : rule_agrees (looked g l p).answer ≡ true
  unfolding looked
  look_verdict =
      let t = ticket_of (record_of l p) in
      let says = (rules_apply g t).valid_says in
      by_bool (is_valid g t) (λ e. rw e (sym says ∙ e)) (λ e. rw e (ap not (sym says ∙ e)))

  take_verdict : rule_agrees (taken_in b g l p).answer ≡ true
  unfolding taken_in
  take_verdict = refl

  leave_verdict : rule_agrees (left_in b g l p).answer ≡ true
  unfolding left_in
  leave_verdict = refl

  place_verdict : rule_agrees (placed_in b g l p).answer ≡ true
  unfolding placed_in
  place_verdict = refl

  mark_verdict : (m : ℕ) → rule_agrees (marked m g l p).answer ≡ true
  unfolding marked
  mark_verdict m = refl

  refused_verdict : (m : ℕ) (o : Outcome) → rule_agrees o.answer ≡ true
      → rule_agrees (refuse (eqb (record_of l p).mark 1) IsStopped g l (refuse (not (eqb (record_of l p).region m)) WrongRegion g l o)).answer ≡ true
  refused_verdict m o h = refuse_verdict (eqb (record_of l p).mark 1) _ g l _ (refuse_verdict (not (eqb (record_of l p).region m)) _ g l o h)

  called_verdict : (c : Call) → rule_agrees (called_in b c g l p).answer ≡ true
  unfolding called_in
  called_verdict Take = refused_verdict 0 _ take_verdict
  called_verdict Look = refused_verdict 1 _ look_verdict
  called_verdict Leave =
      refuse_verdict (eqb (record_of l p).mark 1) _ g l _
      (refuse_verdict (idle (record_of l p)) _ g l _ (refuse_verdict (waits_invalid g (record_of l p)) _ g l _ leave_verdict))
  called_verdict Place = refused_verdict 1 _ place_verdict
  called_verdict Stop = refuse_verdict (eqb (record_of l p).mark 1) _ g l _ (mark_verdict 1)
  called_verdict Wake = refuse_verdict (eqb (record_of l p).mark 0) _ g l _ (mark_verdict 0)

pub verdict_agrees : (c : Call) (g : Gate) (l : List Record) (p : ℕ) → rule_agrees (call c g l p).answer ≡ true
unfolding call
verdict_agrees c g l p =
    refuse_verdict (not (eqb (length l) g.n)) _ g l _
    (refuse_verdict (not (sound g l)) _ g l _ (refuse_verdict (eqb p 0 || ltb g.n p) _ g l _ (called_verdict (block_of g) g l p c)))
