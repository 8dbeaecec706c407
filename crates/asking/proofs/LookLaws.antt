-- What a look gives, by the rule that applies.
use Prim.Native.Nat.{ℕ}
use mathlib.Core.Path.{ap, refl, sym, ◌∙◌, ◌≡◌}
use mathlib.Core.Bool.{Bool, false, true}
use mathlib.Core.List.{List, [], ◌∷◌}
use lib.Dec.{eqb}
use borrow.Author.Tests.{eq-eqb}
use Rattle.std.proofs.Common.{Ok}
use Rattle.begin.specs.Begin.{alone}
use Rattle.model.specs.declared.Answer.TheVariants.{Looked}
use Rattle.model.specs.declared.Call.TheVariants.{Look}
use Rattle.model.specs.declared.Gate.{Gate}
use Rattle.model.specs.declared.Record.{Record}
use Rattle.model.specs.declared.Rule.{Rule}
use Rattle.model.specs.declared.Verdict.TheVariants.{No, Yes}
use Rattle.model.specs.Calls.{called_in, head_slot, looked, moved_up, rec, with_free}
use Rattle.model.specs.Rules.{rule_of, rule_says}
use Rattle.model.specs.Sound.{ticket_of}
use Rattle.model.specs.Steps.{is_valid}
use Rattle.model.proofs.RuleLaws.{rules_apply}

module _ (g : Gate) (r : Record) (running : eqb r.mark 1 ≡ false) (waits : r.region ≡ 1) (rule : Rule) (applies : rule ≡ rule_of g (ticket_of r)) where
  valid_is : (b : Bool) → rule_says rule ≡ b → is_valid g (ticket_of r) ≡ b
  valid_is b e = (rules_apply g (ticket_of r)).valid_says ∙ ap rule_says (sym applies) ∙ e

  pub look_no : rule_says rule ≡ false → record { gate = g; list = r ∷ []; answer = Ok (Looked (No rule)) } ≡ alone Look g r
  unfolding called_in looked
  look_no e = rw (running, eq-eqb _ _ waits, valid_is false e, applies) refl

  pub look_yes : rule_says rule ≡ true → (first : ℕ) → first ≡ head_slot g.free → (free : List ℕ) → free ≡ moved_up g.free
      → record { gate = with_free g free; list = rec 2 r.mark r.value.0 r.colour.0 first ∷ []; answer = Ok (Looked (Yes (record { 0 = first }) rule)) } ≡ alone Look g r
  unfolding called_in looked
  look_yes e first f free m = rw (running, eq-eqb _ _ waits, valid_is true e, applies, f, m) refl
