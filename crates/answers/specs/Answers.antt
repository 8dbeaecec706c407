-- An answer as numbers.
use Rattle.std.specs.Prelude.{ℕ, Bool, Result, Ok, Err}
use Rattle.model.specs.declared.Answer.TheVariants.{Took, Looked, Placed, Done}
use Rattle.model.specs.declared.Refusal.{Refusal}
use Rattle.model.specs.Shown.{comparison_shown, shown}
use Rattle.model.specs.Lists.{one_if}
use Rattle.model.specs.Refusals.{Answered}
use Rattle.model.specs.Rules.{RuleShown}
use Rattle.answers.specs.declared.shown.RuleNumbers.{RuleNumbers}
use Rattle.answers.specs.declared.shown.Shown.{Shown}

-- "The answer to a call is one of: ticket, yes or no, place, done, or refused": 0 to 4.
abbrev pub kind_of : Answered → ℕ
kind_of (Ok (Took t)) = 0
kind_of (Ok (Looked v)) = 1
kind_of (Ok (Placed n)) = 2
kind_of (Ok Done) = 3
kind_of (Err refusal) = 4

-- What a rule shows, as numbers.
abbrev pub rule_numbers : RuleShown → RuleNumbers
rule_numbers r = record { number = r.number; of_ticket = r.of_ticket; against = r.against }

-- What an answer shows, as numbers: yes is 1 and no is 0.
abbrev pub numbers_of : Answered → Shown
numbers_of a = record {
  number = (shown a).number;
  kind = kind_of a;
  yes = one_if (shown a).yes;
  slot = (shown a).slot;
  ticket = (shown a).ticket;
  place = (shown a).place;
  rule = rule_numbers (shown a).rule;
}

-- The same of alike's answer: yes or no, or refused.
abbrev pub comparison_kind : Result Bool Refusal → ℕ
comparison_kind (Ok b) = 1
comparison_kind (Err refusal) = 4

abbrev pub comparison_numbers : Result Bool Refusal → Shown
comparison_numbers c = record {
  number = (comparison_shown c).number;
  kind = comparison_kind c;
  yes = one_if (comparison_shown c).yes;
  slot = (comparison_shown c).slot;
  ticket = (comparison_shown c).ticket;
  place = (comparison_shown c).place;
  rule = rule_numbers (comparison_shown c).rule;
}
