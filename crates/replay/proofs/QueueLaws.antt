-- What the calls leave and write is the plain queue's: `AsSteps` gives `AsQueue`, by the claim of demand 3.
--
-- Main statement: `steps_queue`.
use Prim.Native.Nat.{ℕ}
use mathlib.Core.Path.{ap, ap₂, refl, sym, ◌∙◌, ◌≡◌}
use mathlib.Core.Bool.{Bool, false, not, true, ◌&&◌}
use mathlib.Core.List.{List, [], map, ◌∷◌}
use lib.ListN.{length, replicate}
use lib.Dec.{eqb}
use lib.LanesLaws.{map-replicate}
use Rattle.model.specs.declared.Call.TheVariants.{Wake}
use Rattle.model.specs.declared.Gate.{Gate}
use Rattle.model.specs.declared.Record.{Record}
use Rattle.model.specs.declared.Refusal.{Refusal}
use Rattle.model.specs.declared.Refusal.TheVariants.{NotSound, WrongLength}
use Rattle.model.specs.Audit.{run}
use Rattle.model.specs.Calls.{Outcome, Step, after, call, idle_record, refuse, step}
use Rattle.model.specs.Opening.{open_accepts, opened}
use Rattle.model.specs.Claim.{Entry, SlotEntry, gate_entry, gate_slots, gate_trace, queue_after, queue_trace}
use Rattle.model.specs.Lists.{numbers_from, one_if}
use Rattle.model.specs.Queue.{Queue, empty_queue, is_first, queue_call}
use Rattle.model.specs.Refusals.{Answered}
use Rattle.model.specs.Slices.{Lent, records_of}
use Rattle.model.specs.Slots.{Slots, open_slots}
use Rattle.model.specs.Sound.{held, sound, ticket_of}
use Rattle.model.specs.Steps.{is_valid, ticket}
use Rattle.replay.specs.Replay.{AsQueue, AsSteps, gate_answers, ledger_of, slots_after}
use Rattle.answers.specs.Answers.{numbers_of}
use Rattle.results.specs.Results.{Results, over}
use Rattle.model.proofs.Audit.{after_sizes, run_related}
use Rattle.model.proofs.GateIsQueue.{gate_is_queue, trace_same}
use Rattle.model.proofs.Opening.{open_related}
use Rattle.model.proofs.Relation.{Related}
use Rattle.model.proofs.SliceLaws.{records_lent}
use Rattle.model.proofs.SlotStep.{Slotted, open_slotted, own_step}
use Rattle.replay.proofs.LedgerLaws.{results_ledger}

-- A call for plugin 0 is always refused, so that what the claim says after it holds of the gate as it stands.
refuse_still : (b : Bool) (r : Refusal) (g : Gate) (l : List Record) (o : Outcome) → (o.gate ≡ g) × (o.list ≡ l) → ((refuse b r g l o).gate ≡ g) × ((refuse b r g l o).list ≡ l)
refuse_still true r g l o e = (refl, refl)
refuse_still false r g l o e = e

zero_still : (g : Gate) (l : List Record) → ((call Wake g l 0).gate ≡ g) × ((call Wake g l 0).list ≡ l)
unfolding call
zero_still g l = refuse_still (not (eqb (length l) g.n)) WrongLength g l _ (refuse_still (not (sound g l)) NotSound g l _ (refl, refl))

-- For every plugin whether it holds a valid ticket.
abbrev valid_in : Gate → List Record → List Bool
valid_in g l = map (λ r. held r && is_valid g (ticket_of r)) l

first_valid : List Entry → List Bool
first_valid [] = []
first_valid (e ∷ es) = e.valid

valid_first : (g : Gate) (l : List Record) (q : Queue) → Related g l q → (x : Slots) → Slotted g l x → valid_in g l ≡ map (is_first q) (numbers_from 1 q.n)
unfolding gate_trace queue_trace queue_call first_valid
valid_first g l q r x w =
    ap₂ valid_in (sym (zero_still g l).0) (sym (zero_still g l).1) ∙ ap first_valid (trace_same g l q r x w (step Wake 0 ∷ []))

-- What a field of the entries has is what the answers show.
trace_answers : (f : Entry → ℕ) (h : Answered → ℕ) → ((o : Outcome) → f (gate_entry o) ≡ h o.answer) → (g : Gate) (l : List Record) (s : List Step)
    → map h (gate_answers g l s) ≡ map f (gate_trace g l s)
unfolding gate_answers gate_trace
trace_answers f h e g l [] = refl
trace_answers f h e g l (step c p ∷ s) =
    ap₂ (λ (x : ℕ) (t : List ℕ). x ∷ t) (sym (e (call c g l p))) (trace_answers f h e (call c g l p).gate (call c g l p).list s)

-- The slots that the answers show are those of the entries.
slot_answers : (g : Gate) (l : List Record) (s : List Step) → map (λ a. (numbers_of a).slot) (gate_answers g l s) ≡ map (λ e. e.given) (gate_slots g l s)
unfolding gate_answers gate_slots
slot_answers g l [] = refl
slot_answers g l (step c p ∷ s) =
    ap (λ (t : List ℕ). (numbers_of (call c g l p).answer).slot ∷ t) (slot_answers (call c g l p).gate (call c g l p).list s)

-- The slots that a list of calls leaves are those of the slot rule.
after_slots : (g : Gate) (l : List Record) (q : Queue) → Related g l q → (x : Slots) → Slotted g l x → (s : List Step)
    → Slotted (after g l s).gate (after g l s).list (slots_after q x s)
unfolding after slots_after
after_slots g l q r x w [] = w
after_slots g l q r x w (step c p ∷ s) =
    let a = own_step g l q r x w c p in
    after_slots (call c g l p).gate (call c g l p).list (queue_call c q p).queue a.agree.related _ a.slotted s

module _ (year n k : ℕ) (e : open_accepts year n k ≡ true) (s : List Step) (w : Results) (gate : Gate) (l' : Lent) (w' : Results) (a : AsSteps year n k s w gate l' w') where
  -- A field of the answers is the queue's.
  answers_queue : (f : Entry → ℕ) (h : Answered → ℕ) → ((o : Outcome) → f (gate_entry o) ≡ h o.answer) → (old : List ℕ)
      → over (map h (gate_answers (opened year n k).gate (opened year n k).list s)) old ≡ over (map f (queue_trace (empty_queue n k) s)) old
  answers_queue f h same old =
      ap (λ (xs : List ℕ). over xs old)
      (trace_answers f h same (opened year n k).gate (opened year n k).list s ∙ ap (map f) (gate_is_queue year n k e s).as_queue)

  records_are : records_of l' ≡ (run year n k s).list
  records_are = ap records_of a.slices_are ∙ records_lent (run year n k s).list

  n_kept : (queue_after (empty_queue n k) s).n ≡ n
  n_kept = (after_sizes (empty_queue n k) s).0

  slotted : Slotted (run year n k s).gate (run year n k s).list (slots_after (empty_queue n k) (open_slots n k) s)
  slotted =
      after_slots (opened year n k).gate (opened year n k).list (empty_queue n k) (open_related year n k e) (open_slots n k) (open_slotted year n k) s

  pub steps_queue : AsQueue n k s w gate l' w'
  steps_queue =
      let r = run_related year n k e s in
      record {
        numbers_are = ap (λ (x : Results). x.numbers) a.results_are ∙ answers_queue (λ e. e.number) (λ a. (numbers_of a).number) (λ o. refl) w.numbers;
        verdicts_are =
            ap (λ (x : Results). x.verdicts) a.results_are ∙ answers_queue (λ e. one_if e.yes) (λ a. (numbers_of a).yes) (λ o. refl) w.verdicts;
        places_are = ap (λ (x : Results). x.places) a.results_are ∙ answers_queue (λ e. e.place) (λ a. (numbers_of a).place) (λ o. refl) w.places;
        regions_are = ap (λ (x : Lent). x.regions) a.slices_are ∙ sym r.regions_are;
        marks_are = ap (λ (x : Lent). x.marks) a.slices_are ∙ sym r.marks_are;
        valid-are =
            ap₂ valid_in a.gate_is records_are ∙ valid_first _ _ _ r _ slotted
            ∙ ap (λ (m : ℕ). map (is_first (queue_after (empty_queue n k) s)) (numbers_from 1 m)) n_kept;
        tickets_are =
            ap (map ticket_of) records_are
            ∙ results_ledger (opened year n k).gate (opened year n k).list (replicate n (ticket 0 0)) (map-replicate ticket_of n idle_record) s _ _ _
            ∙ ap (λ (x : Results). ledger_of (replicate n (ticket 0 0)) s x.numbers x.tickets x.shades) (sym a.results_are);
        given_are =
            ap (λ (x : Results). x.given) a.results_are
            ∙ ap (λ (xs : List ℕ). over xs w.given)
            (slot_answers (opened year n k).gate (opened year n k).list s ∙ ap (map (λ (e : SlotEntry). e.given)) (gate_is_queue year n k e s).as_slots);
        slots_are = ap (λ (x : Lent). x.slots) a.slices_are ∙ sym slotted.owned_are;
      }
