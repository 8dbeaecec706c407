-- What stood after each call of a replay that ran: the claim at every front of its calls, and the ledger of what was written out for it.
--
-- Main statement: `after_each_call`. Assumes nothing.
use Prim.Native.Nat.{ℕ, suc, zero}
use mathlib.Core.Path.{ap, refl, sym, ◌∙◌, ◌≡◌}
use mathlib.Core.Bool.{true, ◌&&◌}
use mathlib.Core.List.{List, [], append_assoc, map, ◌++◌, ◌∷◌}
use lib.ListN.{replicate, take}
use lib.LanesLaws.{map-replicate}
use Rattle.model.specs.declared.Gate.{Gate}
use Rattle.model.specs.declared.Record.{Record}
use Rattle.model.specs.Audit.{run}
use Rattle.model.specs.Calls.{Step, call, idle_record, step}
use Rattle.model.specs.Opening.{open_accepts, opened}
use Rattle.model.specs.Refusals.{Answered}
use Rattle.model.specs.Slices.{Lent, lent_of}
use Rattle.model.specs.Sound.{held, ticket_of}
use Rattle.model.specs.Steps.{col, is_valid, ticket, val}
use Rattle.answers.specs.Answers.{numbers_of}
use Rattle.model.specs.Letters.{steps_of}
use Rattle.results.specs.Results.{Results, all_written}
use Rattle.replay.specs.Replay.{AfterEachCall, AfterFirst, AsQueue, AsSteps, gate_answers, ledger_of}
use Rattle.model.proofs.SliceLaws.{records_lent}
use Rattle.replay.proofs.LedgerLaws.{results_ledger}
use Rattle.replay.proofs.QueueLaws.{steps_queue}
use Rattle.replay.proofs.ReplayLaws.{ran_opened}

-- The answers of the calls after the first i.
unfoldable later : ℕ → Gate → List Record → List Step → List Answered
later zero g l s = gate_answers g l s
later (suc i) g l [] = []
later (suc i) g l (step c p ∷ s) = let o = call c g l p in later i o.gate o.list s

-- What f gives of all answers is what it gives of the first i, then of the others.
front_then : (f : Answered → ℕ) (i : ℕ) (g : Gate) (l : List Record) (s : List Step) → map f (gate_answers g l s) ≡ map f (gate_answers g l (take i s)) ++ map f (later i g l s)
unfolding later gate_answers
front_then f zero g l s = refl
front_then f (suc i) g l [] = refl
front_then f (suc i) g l (step c p ∷ s) = let o = call c g l p in ap (λ (xs : List ℕ). f o.answer ∷ xs) (front_then f i o.gate o.list s)

front_wrote : (f : Answered → ℕ) (i : ℕ) (g : Gate) (l : List Record) (s : List Step) (old : List ℕ)
    → map f (gate_answers g l s) ++ old ≡ map f (gate_answers g l (take i s)) ++ (map f (later i g l s) ++ old)
front_wrote f i g l s old = ap (λ (xs : List ℕ). xs ++ old) (front_then f i g l s) ∙ append_assoc (map f (gate_answers g l (take i s))) (map f (later i g l s)) old

module _ (year n k : ℕ) (e : open_accepts year n k ≡ true) (s : List Step) (w : Results) (gate : Gate) (l' : Lent) (w' : Results) (a : AsSteps year n k s w gate l' w') (i : ℕ) where
  abbrev g₀ : Gate
  g₀ = (opened year n k).gate

  abbrev l₀ : List Record
  l₀ = (opened year n k).list

  abbrev front : List Step
  front = take i s

  front_steps : AsSteps year n k front w (run year n k front).gate (lent_of (run year n k front).list) (all_written (gate_answers g₀ l₀ front) w)
  front_steps = record { gate_is = refl; slices_are = refl; results_are = refl }

  front_queue : AsQueue n k front w (run year n k front).gate (lent_of (run year n k front).list) (all_written (gate_answers g₀ l₀ front) w)
  front_queue = steps_queue year n k e front w (run year n k front).gate (lent_of (run year n k front).list) (all_written (gate_answers g₀ l₀ front) w) front_steps

  after_first : AfterFirst i year n k s w'
  after_first = record {
    regions_are = front_queue.regions_are;
    marks_are = front_queue.marks_are;
    valid-are = ap (map (λ (r : Record). held r && is_valid (run year n k front).gate (ticket_of r))) (sym (records_lent (run year n k front).list)) ∙ front_queue.valid-are;
    tickets_are =
        results_ledger g₀ l₀ (replicate n (ticket 0 0)) (map-replicate ticket_of n idle_record) front _ _ _
        ∙ (λ j. ledger_of (replicate n (ticket 0 0)) front
        (sym (ap (λ (x : Results). x.numbers) a.results_are ∙ front_wrote (λ x. (numbers_of x).number) i g₀ l₀ s _) j)
        (sym (ap (λ (x : Results). x.tickets) a.results_are ∙ front_wrote (λ x. val (numbers_of x).ticket) i g₀ l₀ s _) j)
        (sym (ap (λ (x : Results). x.shades) a.results_are ∙ front_wrote (λ x. col (numbers_of x).ticket) i g₀ l₀ s _) j));
    slots_are = front_queue.slots_are;
  }

pub after_each_call : AfterEachCall
after_each_call year n k calls plugins l w gate l' w' r i =
    after_first year n k (ran_opened year n k calls plugins l w r.failure_is) (steps_of calls plugins) w gate l' w' (r.as_steps gate refl) i
