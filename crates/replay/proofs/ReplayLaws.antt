-- A law for each return of replay.
use Rattle.std.proofs.Common.{ℕ, ◌≡◌, ◌∙◌, true, false, List, None, Some, Ok, Err, ap, length, refl, sym}
use Rattle.std.proofs.lemmas.List.{length-replicate}
use Rattle.model.specs.declared.Answer.{Answer}
use Rattle.model.specs.declared.Gate.{Gate}
use Rattle.model.specs.declared.Refusal.{Refusal}
use Rattle.model.specs.declared.Ticket.{Ticket}
use Rattle.model.specs.declared.Verdict.{Verdict}
use Rattle.model.specs.Calls.{idle_record}
use Rattle.model.specs.Opening.{open_accepts, opened}
use Rattle.model.specs.Letters.{is_letter, steps_of}
use Rattle.model.specs.Lists.{all}
use Rattle.model.specs.Refusals.{Answered}
use Rattle.model.specs.Slices.{Lent, LentOutcome, Meets, length_is, lent_of, on_slices, open_lent}
use Rattle.results.specs.Results.{Results, all_written, has_room}
use Rattle.replay.specs.declared.not_replayed.NotReplayed.{NotReplayed}
use Rattle.replay.specs.declared.not_replayed.NotReplayed.TheVariants.{NoSuchCall, NotOpened, TooShort}
use Rattle.replay.specs.Replay.{AsSteps, Replays, not_opened, not_run}
use Rattle.replay.specs.Running.{Runs}
use Rattle.model.proofs.Logic.{by_bool}
use Rattle.model.proofs.Opens.{lent_opened, lent_refused, lent_wrong}
use Rattle.replay.proofs.LentLaws.{lent_runs}
use Rattle.replay.proofs.QueueLaws.{steps_queue}

-- An open that was accepted, and one that was refused.
open_yes : (year n k : ℕ) (l : Lent) → not_opened (open_lent year n k l).answer ≡ None
    → (open_accepts year n k ≡ true) × (open_lent year n k l ≡ on_slices (opened year n k))
open_yes year n k l e =
    by_bool (open_accepts year n k)
    (λ x. by_bool (length_is l n) (λ y. (x, lent_opened year n k l x y)) (λ y. let z = rw (lent_wrong year n k l x y) at e in absurd cc))
    (λ x. let z = rw (lent_refused year n k l x) at e in absurd cc)

open_no : (year n k : ℕ) (l : Lent) (r : Refusal) → Err r ≡ (open_lent year n k l).answer → (open_lent year n k l).slices ≡ l
open_no year n k l r e =
    by_bool (open_accepts year n k)
    (λ x.
    by_bool (length_is l n) (λ y. let z = rw (lent_opened year n k l x y) at e in absurd cc)
    (λ y. rw (lent_wrong year n k l x y) refl))
    (λ x. rw (lent_refused year n k l x) refl)

-- A replay that ran was opened.
pub ran_opened : (year n k : ℕ) (calls plugins : List ℕ) (l : Lent) (w : Results) → None ≡ not_run year n k calls plugins l w → open_accepts year n k ≡ true
unfolding not_run
ran_opened year n k calls plugins l w e =
    by_bool (has_room (length calls) plugins w)
    (λ r.
    by_bool (all is_letter calls)
    (λ a. (open_yes year n k l (sym (rw (r, a) at e))).0)
    (λ a. let z = rw (r, a) at e in absurd cc))
    (λ r. let z = rw r at e in absurd cc)

module _ (year n k : ℕ) (calls plugins : List ℕ) (l : Lent) (w : Results) where
  -- Whatever the reason why nothing was run.
  unran : (reason : NotReplayed) (l' : Lent) → Some reason ≡ not_run year n k calls plugins l w → l' ≡ l → Replays year n k calls plugins l w (Err reason) l' w
  unran reason l' e s = record {
    failure_is = e;
    unless_ran = λ r q. record { slices_are = s; results_are = refl };
    as_queue = λ g q. absurd cc;
    as_steps = λ g q. absurd cc;
  }

  pub too_short : has_room (length calls) plugins w ≡ false → Replays year n k calls plugins l w (Err TooShort) l w
  unfolding not_run
  too_short room = unran TooShort l (rw room refl) refl

  module _ (room : has_room (length calls) plugins w ≡ true) where
    pub no_such_call : all is_letter calls ≡ false → Replays year n k calls plugins l w (Err NoSuchCall) l w
    unfolding not_run
    no_such_call letters = unran NoSuchCall l (rw (room, letters) refl) refl

    module _ (letters : all is_letter calls ≡ true) where
      pub refused : (g : Gate) (r : Refusal) (l' : Lent) → Meets (open_lent year n k l) g (Err r) l' → Replays year n k calls plugins l w (Err (NotOpened r)) l' w
      unfolding not_run
      refused g r l' m = unran (NotOpened r) l' (rw (room, letters, sym m.answer_is) refl) (m.slices_are ∙ open_no year n k l r m.answer_is)

      module _ (g : Gate) (a : Answer Ticket Verdict ℕ) (l₁ : Lent) (m : Meets (open_lent year n k l) g (Ok a) l₁) (g' : Gate) (l' : Lent) (w' : Results) (r : Runs g l₁ (steps_of calls plugins) w g' l' w') where
        is_open : (open_accepts year n k ≡ true) × (open_lent year n k l ≡ on_slices (opened year n k))
        is_open = open_yes year n k l (rw (sym m.answer_is) refl)

        ran_steps : AsSteps year n k (steps_of calls plugins) w g' l' w'
        ran_steps =
            let eg : g ≡ (opened year n k).gate = m.gate_is ∙ ap (λ (y : LentOutcome). y.gate) is_open.1 in
            let el : l₁ ≡ lent_of (opened year n k).list = m.slices_are ∙ ap (λ (y : LentOutcome). y.slices) is_open.1 in
            let r' : Runs (opened year n k).gate (lent_of (opened year n k).list) (steps_of calls plugins) w g' l' w' = rw (eg, el) at r in
            let t = lent_runs (opened year n k).gate (opened year n k).list (steps_of calls plugins) (length-replicate n idle_record) in
            record {
              gate_is = r'.gate_is ∙ t.gate_is;
              slices_are = r'.slices_are ∙ t.slices_are;
              results_are = r'.results_are ∙ ap (λ (answers : List Answered). all_written answers w) t.answers_are;
            }

        pub ran : Replays year n k calls plugins l w (Ok g') l' w'
        unfolding not_run
        ran = record {
          failure_is = rw (room, letters, sym m.answer_is) refl;
          unless_ran = λ reason q. absurd cc;
          as_queue = λ gate q. let same : gate ≡ g' = cc in rw same (steps_queue year n k is_open.0 (steps_of calls plugins) w g' l' w' ran_steps);
          as_steps = λ gate q. let same : gate ≡ g' = cc in rw same ran_steps;
        }
