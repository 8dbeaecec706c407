-- A list of calls run on lent slices, each call on what the one before left, by what the public calls promise.
use Rattle.std.specs.Prelude.{Ok, ◌≡◌, List, [], ◌∷◌}
use Rattle.model.specs.Refusals.{Answered}
use Rattle.model.specs.declared.Answer.TheVariants.{Done}
use Rattle.model.specs.declared.Gate.{Gate}
use Rattle.model.specs.Calls.{Step, step}
use Rattle.model.specs.Slices.{Lent, LentOutcome, call_lent}
use Rattle.results.specs.Results.{Results, all_written}

-- What the calls leave.
unfoldable pub lent_after : Gate → Lent → List Step → LentOutcome
lent_after g l [] = record { gate = g; slices = l; answer = Ok Done }
lent_after g l (step c p ∷ s) = let o = call_lent c g l p in lent_after o.gate o.slices s

-- What they answer.
unfoldable pub lent_answers : Gate → Lent → List Step → List Answered
lent_answers g l [] = []
lent_answers g l (step c p ∷ s) = let o = call_lent c g l p in o.answer ∷ lent_answers o.gate o.slices s

-- The calls s were run on the gate g and the slices l, and their results written over w.
pub record Runs (g : Gate) (l : Lent) (s : List Step) (w : Results) (g' : Gate) (l' : Lent) (w' : Results) : Type 0 where
  pub gate_is : g' ≡ (lent_after g l s).gate
  pub slices_are : l' ≡ (lent_after g l s).slices
  pub results_are : w' ≡ all_written (lent_answers g l s) w
