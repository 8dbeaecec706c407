-- What an answer shows, for each case.
use Rattle.std.specs.Prelude.{Result, Ok, Err, ℕ, Bool, true, false}
use Rattle.model.specs.declared.Ticket.{Ticket}
use Rattle.model.specs.declared.Verdict.TheVariants.{Yes, No}
use Rattle.model.specs.declared.Answer.TheVariants.{Took, Looked, Placed, Done}
use Rattle.model.specs.declared.Refusal.{Refusal}
use Rattle.model.specs.Refusals.{Answered, refusal_number}
use Rattle.model.specs.Steps.{ticket}
use Rattle.model.specs.Rules.{RuleShown, no_rule, rule_shown}

-- What an answer shows. "A refused call .. returns only its number (a ticket shown by it is 0/0, a yes is no, a place is 0) .. An
-- accepted one has number 0". "A look that answers yes gives the slot."
pub record Shown : Type 0 where
  pub number : ℕ
  pub ticket : Ticket
  pub yes : Bool
  pub place : ℕ
  pub slot : ℕ
  pub rule : RuleShown

abbrev pub shown : Answered → Shown
shown (Ok (Took t)) = record { number = 0; ticket = t; yes = false; place = 0; slot = 0; rule = no_rule }
shown (Ok (Looked (Yes s r))) = record { number = 0; ticket = ticket 0 0; yes = true; place = 0; slot = s.0; rule = rule_shown r }
shown (Ok (Looked (No r))) = record { number = 0; ticket = ticket 0 0; yes = false; place = 0; slot = 0; rule = rule_shown r }
shown (Ok (Placed n)) = record { number = 0; ticket = ticket 0 0; yes = false; place = n; slot = 0; rule = no_rule }
shown (Ok Done) = record { number = 0; ticket = ticket 0 0; yes = false; place = 0; slot = 0; rule = no_rule }
shown (Err refusal) = record { number = refusal_number refusal; ticket = ticket 0 0; yes = false; place = 0; slot = 0; rule = no_rule }

abbrev pub comparison_shown : Result Bool Refusal → Shown
comparison_shown (Ok b) = record { number = 0; ticket = ticket 0 0; yes = b; place = 0; slot = 0; rule = no_rule }
comparison_shown (Err refusal) = record { number = refusal_number refusal; ticket = ticket 0 0; yes = false; place = 0; slot = 0; rule = no_rule }
