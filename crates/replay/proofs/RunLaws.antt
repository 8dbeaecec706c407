-- The loop that runs the calls: where it stands, one call more, and its end.
--
-- Main statements: `run_starts`, `run_next`, `run_done`.
use Prim.Native.Nat.{suc, zero, ℕ, ◌+◌, ◌<◌, ◌≤◌}
use mathlib.Core.Path.{ap, refl, sym, ◌∙◌, ◌≡◌}
use mathlib.Core.Bool.{Bool, true}
use mathlib.Core.List.{List, [], ◌∷◌}
use native.Mathlib.Omega.{arith}
use lib.ListN.{drop, get_or, length, set}
use Rattle.std.proofs.Common.{Ok}
use Rattle.model.specs.declared.Call.{Call}
use Rattle.model.specs.declared.Gate.{Gate}
use Rattle.answers.specs.declared.shown.Shown.{Shown}
use Rattle.model.specs.Calls.{Step, step}
use Rattle.model.specs.Refusals.{Answered}
use Rattle.model.specs.Slices.{Lent, LentOutcome, Meets, call_lent}
use Rattle.model.specs.Letters.{is_letter, letter_call, named_call, steps_of}
use Rattle.model.specs.Lists.{all}
use Rattle.model.specs.Steps.{col, val}
use Rattle.answers.specs.Answers.{numbers_of}
use Rattle.results.specs.Results.{Results, RoomAt, has_room, results, written}
use Rattle.replay.specs.Running.{Runs, lent_after, lent_answers}
use Rattle.results.proofs.Filling.{Filling, filling_done, filling_next, filling_starts}
use Rattle.model.proofs.Logic.{and_l, and_r}
use Rattle.letters.proofs.LetterLaws.{length_steps, steps_at, steps_end}
use Rattle.results.proofs.RoomLaws.{room_use}

-- Each letter of a list of letters names its call.
all_at : (p : ℕ → Bool) (xs : List ℕ) (i : ℕ) → all p xs ≡ true → i < length xs → p (get_or xs i 0) ≡ true
unfolding all
all_at p [] i e h = absurd (omega arith)
all_at p (x ∷ xs) zero e h = and_l (p x) _ e
all_at p (x ∷ xs) (suc i) e h = all_at p xs i (and_r (p x) _ e) (omega arith)

pub call_at : (bs : List ℕ) (i : ℕ) → all is_letter bs ≡ true → i < length bs → named_call (get_or bs i 0) ≡ Ok (letter_call (get_or bs i 0))
call_at bs i e h = rw (all_at is_letter bs i e h) refl

pub length_answers : (g : Gate) (l : Lent) (s : List Step) → length (lent_answers g l s) ≡ length s
unfolding lent_answers
length_answers g l [] = refl
length_answers g l (step c p ∷ s) = ap suc (length_answers (call_lent c g l p).gate (call_lent c g l p).slices s)

-- After i calls of s, run from g₀, l₀ and w₀: the calls that are left end as all of them do, and the results of the first i are written.
pub record Reached (g₀ : Gate) (l₀ : Lent) (s : List Step) (w₀ : Results) (i : ℕ) (g : Gate) (l : Lent) (w : Results) : Type 0 where
  pub ends : lent_after g l (drop i s) ≡ lent_after g₀ l₀ s
  pub numbers : Filling (λ a. (numbers_of a).number) w₀.numbers w.numbers i (lent_answers g l (drop i s)) (lent_answers g₀ l₀ s)
  pub verdicts : Filling (λ a. (numbers_of a).yes) w₀.verdicts w.verdicts i (lent_answers g l (drop i s)) (lent_answers g₀ l₀ s)
  pub places : Filling (λ a. (numbers_of a).place) w₀.places w.places i (lent_answers g l (drop i s)) (lent_answers g₀ l₀ s)
  pub tickets : Filling (λ a. val (numbers_of a).ticket) w₀.tickets w.tickets i (lent_answers g l (drop i s)) (lent_answers g₀ l₀ s)
  pub shades : Filling (λ a. col (numbers_of a).ticket) w₀.shades w.shades i (lent_answers g l (drop i s)) (lent_answers g₀ l₀ s)
  pub given : Filling (λ a. (numbers_of a).slot) w₀.given w.given i (lent_answers g l (drop i s)) (lent_answers g₀ l₀ s)
  pub rules : Filling (λ a. (numbers_of a).rule.number) w₀.rules w.rules i (lent_answers g l (drop i s)) (lent_answers g₀ l₀ s)
  pub of_tickets : Filling (λ a. (numbers_of a).rule.of_ticket) w₀.of_tickets w.of_tickets i (lent_answers g l (drop i s)) (lent_answers g₀ l₀ s)
  pub against : Filling (λ a. (numbers_of a).rule.against) w₀.against w.against i (lent_answers g l (drop i s)) (lent_answers g₀ l₀ s)

pub run_starts : (g : Gate) (l : Lent) (s : List Step) (w : Results) → Reached g l s w 0 g l w
run_starts g l s w = record {
  ends = refl;
  numbers = filling_starts _ _ _;
  verdicts = filling_starts _ _ _;
  places = filling_starts _ _ _;
  tickets = filling_starts _ _ _;
  shades = filling_starts _ _ _;
  given = filling_starts _ _ _;
  rules = filling_starts _ _ _;
  of_tickets = filling_starts _ _ _;
  against = filling_starts _ _ _;
}

module _ (g₀ : Gate) (l₀ : Lent) (bs ps : List ℕ) (w₀ : Results) (i : ℕ) (g : Gate) (l : Lent) (w : Results) (r : Reached g₀ l₀ (steps_of bs ps) w₀ i g l w) where
  -- There is room for the result of the next call.
  pub room_next : has_room (length bs) ps w₀ ≡ true → i < length bs → RoomAt i w
  room_next e h =
      let room = room_use _ _ _ e in
      record {
        in_numbers = omega (arith, r.numbers.size, room.for_numbers);
        in_verdicts = omega (arith, r.verdicts.size, room.for_verdicts);
        in_places = omega (arith, r.places.size, room.for_places);
        in_tickets = omega (arith, r.tickets.size, room.for_tickets);
        in_shades = omega (arith, r.shades.size, room.for_shades);
        in_given = omega (arith, r.given.size, room.for_given);
        in_rules = omega (arith, r.rules.size, room.for_rules);
        in_of_tickets = omega (arith, r.of_tickets.size, room.for_of_tickets);
        in_against = omega (arith, r.against.size, room.for_against);
      }

  module _ (h : i < length bs) where
    abbrev rest : List Step
    rest = drop (i + 1) (steps_of bs ps)

    abbrev o : LentOutcome
    o = call_lent (letter_call (get_or bs i 0)) g l (get_or ps i 0)

    after_first : lent_after g l (drop i (steps_of bs ps)) ≡ lent_after o.gate o.slices rest
    unfolding lent_after
    after_first = rw (steps_at bs ps i h) refl

    answers_first : lent_answers g l (drop i (steps_of bs ps)) ≡ o.answer ∷ lent_answers o.gate o.slices rest
    unfolding lent_answers
    answers_first = rw (steps_at bs ps i h) refl

    filled : (f : Answered → ℕ) (old xs : List ℕ) → i < length xs → Filling f old xs i (lent_answers g l (drop i (steps_of bs ps))) (lent_answers g₀ l₀ (steps_of bs ps))
        → Filling f old (set xs i (f o.answer)) (i + 1) (lent_answers o.gate o.slices rest) (lent_answers g₀ l₀ (steps_of bs ps))
    filled f old xs b e = filling_next f old xs i o.answer _ _ b (rw answers_first at e)

    reached_next : RoomAt i w → Reached g₀ l₀ (steps_of bs ps) w₀ (i + 1) o.gate o.slices (written w i (numbers_of o.answer))
    reached_next a = record {
      ends = sym after_first ∙ r.ends;
      numbers = filled _ _ _ a.in_numbers r.numbers;
      verdicts = filled _ _ _ a.in_verdicts r.verdicts;
      places = filled _ _ _ a.in_places r.places;
      tickets = filled _ _ _ a.in_tickets r.tickets;
      shades = filled _ _ _ a.in_shades r.shades;
      given = filled _ _ _ a.in_given r.given;
      rules = filled _ _ _ a.in_rules r.rules;
      of_tickets = filled _ _ _ a.in_of_tickets r.of_tickets;
      against = filled _ _ _ a.in_against r.against;
    }

    -- One call more: the call that letter i names was made, and its result written at i.
    pub run_next : RoomAt i w → (c : Call) → c ≡ letter_call (get_or bs i 0) → (g' : Gate) (a : Answered) (l' : Lent) → Meets (call_lent c g l (get_or ps i 0)) g' a l'
        → (x : Shown) → x ≡ numbers_of a → (w' : Results) → w' ≡ written w i x → Reached g₀ l₀ (steps_of bs ps) w₀ (i + 1) g' l' w'
    run_next b c e g' a l' m x ex w' ew =
        let m' : Meets o g' a l' = rw e at m in
        let eo : w' ≡ written w i (numbers_of o.answer) = ew ∙ ap (written w i) (ex ∙ ap numbers_of m'.answer_is) in
        rw (m'.gate_is, m'.slices_are, eo) (reached_next b)

  pub run_done : length bs ≤ i → i ≤ length bs → Runs g₀ l₀ (steps_of bs ps) w₀ g l w
  unfolding lent_after lent_answers
  run_done h k =
      let z = steps_end bs ps i h in
      let n : length (lent_answers g₀ l₀ (steps_of bs ps)) ≡ i = length_answers g₀ l₀ (steps_of bs ps) ∙ length_steps bs ps ∙ omega arith in
      let e : lent_after g l [] ≡ lent_after g₀ l₀ (steps_of bs ps) = rw z at r.ends in
      record {
        gate_is = ap (λ (x : LentOutcome). x.gate) e;
        slices_are = ap (λ (x : LentOutcome). x.slices) e;
        results_are =
            λ j. results (filling_done _ _ _ i _ n (rw z at r.numbers) j) (filling_done _ _ _ i _ n (rw z at r.verdicts) j)
            (filling_done _ _ _ i _ n (rw z at r.places) j) (filling_done _ _ _ i _ n (rw z at r.tickets) j)
            (filling_done _ _ _ i _ n (rw z at r.shades) j) (filling_done _ _ _ i _ n (rw z at r.given) j)
            (filling_done _ _ _ i _ n (rw z at r.rules) j) (filling_done _ _ _ i _ n (rw z at r.of_tickets) j)
            (filling_done _ _ _ i _ n (rw z at r.against) j);
      }
