-- What a public call over a list of records promises.
use Rattle.std.specs.Prelude.{◌≡◌, List}
use Rattle.model.specs.declared.Gate.{Gate}
use Rattle.model.specs.declared.Record.{Record}
use Rattle.model.specs.Calls.{Outcome}
use Rattle.model.specs.Shown.{shown}
use Rattle.model.specs.Refusals.{Answered}

-- Every word, every record and the answer are those of the outcome, and so is what the answer shows.
pub record Fulfils (o : Outcome) (gate : Gate) (answer : Answered) (list : List Record) : Type 0 where
  pub gate_is : gate ≡ o.gate
  pub answer_is : answer ≡ o.answer
  pub shown_is : shown answer ≡ shown o.answer
  pub list_is : list ≡ o.list
