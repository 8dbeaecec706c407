-- "Each yes or no with its rule": which of the four rules decided whether a ticket is valid, and what it compared.
use Rattle.std.specs.Prelude.{Ok, Err, ℕ, ◌≡◌, Bool, true, false, not, cond, ◌&&◌, ◌||◌, [], ◌∷◌, get_or, eqb, ltb, leb}
use Rattle.model.specs.declared.Ticket.{Ticket}
use Rattle.model.specs.declared.Gate.{Gate}
use Rattle.model.specs.declared.Rule.{Rule}
use Rattle.model.specs.declared.Verdict.TheVariants.{Yes, No}
use Rattle.model.specs.declared.Answer.TheVariants.{Took, Looked, Placed, Done}
use Rattle.model.specs.Refusals.{Answered}
use Rattle.model.specs.declared.Rule.TheVariants.{NotAbove, Above, Counted, NotCounted}
use Rattle.model.specs.Lists.{count}
use Rattle.model.specs.Steps.{val, col, is_valid}

-- "The validity test .. shall answer with the rule that applied. There are four: same colour, not above VALID's value; same colour, above it;
-- other colour, counted; other colour, not counted." Their conditions on words and a ticket:
abbrev pub count_of : Gate → ℕ → ℕ
count_of g c = get_or g.counts c 0

abbrev pub same_colour : Gate → Ticket → Bool
same_colour g t = eqb (col t) (col g.valid)

unfoldable pub same_not_above : Gate → Ticket → Bool
same_not_above g t = same_colour g t && leb (val t) (val g.valid)

unfoldable pub same_above : Gate → Ticket → Bool
same_above g t = same_colour g t && ltb (val g.valid) (val t)

unfoldable pub other_counted : Gate → Ticket → Bool
other_counted g t = not (same_colour g t) && ltb 0 (count_of g (col t))

unfoldable pub other_not_counted : Gate → Ticket → Bool
other_not_counted g t = not (same_colour g t) && eqb (count_of g (col t)) 0

-- "The first two carry both values, the last two the colour and its count."
unfoldable pub rule_of : Gate → Ticket → Rule
rule_of g t =
    cond (same_colour g t)
    (cond (leb (val t) (val g.valid)) (NotAbove t.value g.valid.value) (Above t.value g.valid.value))
    (cond (ltb 0 (count_of g (col t))) (Counted t.colour (count_of g (col t))) (NotCounted t.colour (count_of g (col t))))

-- A rule says yes or no.
abbrev pub rule_says : Rule → Bool
rule_says (NotAbove v w) = true
rule_says (Above v w) = false
rule_says (Counted c n) = true
rule_says (NotCounted c n) = false

-- A verdict and its rule say the same. (No other answer has a rule.)
abbrev pub rule_agrees : Answered → Bool
rule_agrees (Ok (Took t)) = true
rule_agrees (Ok (Looked (Yes s r))) = rule_says r
rule_agrees (Ok (Looked (No r))) = not (rule_says r)
rule_agrees (Ok (Placed n)) = true
rule_agrees (Ok Done) = true
rule_agrees (Err r) = true

-- What a rule shows: its number among the four, and what it carries. No rule is all 0.
pub record RuleShown : Type 0 where
  pub number : ℕ
  pub of_ticket : ℕ
  pub against : ℕ

abbrev pub no_rule : RuleShown
no_rule = record { number = 0; of_ticket = 0; against = 0 }

abbrev pub rule_shown : Rule → RuleShown
rule_shown (NotAbove v w) = record { number = 1; of_ticket = v.0; against = w.0 }
rule_shown (Above v w) = record { number = 2; of_ticket = v.0; against = w.0 }
rule_shown (Counted c n) = record { number = 3; of_ticket = c.0; against = n }
rule_shown (NotCounted c n) = record { number = 4; of_ticket = c.0; against = n }

-- "The rule shown is the one whose condition is met; show that the four exclude one another." Of any words and any ticket:
pub record RuleApplies (g : Gate) (t : Ticket) : Type 0 where
  -- exactly one of the four conditions is met,
  pub one_met : count (λ b. b) (same_not_above g t ∷ same_above g t ∷ other_counted g t ∷ other_not_counted g t ∷ []) ≡ 1
  -- the rule is that one, and carries these numbers,
  pub if_not_above : same_not_above g t ≡ true → rule_of g t ≡ NotAbove t.value g.valid.value
  pub if_above : same_above g t ≡ true → rule_of g t ≡ Above t.value g.valid.value
  pub if_counted : other_counted g t ≡ true → rule_of g t ≡ Counted t.colour (count_of g (col t))
  pub if_not_counted : other_not_counted g t ≡ true → rule_of g t ≡ NotCounted t.colour (count_of g (col t))
  -- and the ticket is valid exactly where the first or the third is met: where the rule says yes.
  pub valid_if : is_valid g t ≡ (same_not_above g t || other_counted g t)
  pub valid_says : is_valid g t ≡ rule_says (rule_of g t)

abbrev pub RulesApply : Type 0
RulesApply = (g : Gate) (t : Ticket) → RuleApplies g t
