-- What replay promises: demand 3 about the calls that the code ran.
--
-- Read before it: Letters, Results, and model's Queue, Slots and Claim. `AsQueue` speaks of what was lent, written out and returned, and of
-- the plain queue and the slot rule fed the same open and calls; `AsSteps` says beside it what the steps of the 1989 algorithm prescribe. The calls are any
-- list, refused calls included. `AfterEachCall` says the same of what stood after each of them.
use Rattle.std.specs.Prelude.{ℕ, ◌-◌, ◌≡◌, not, cond, ◌&&◌, Option, None, Some, Result, Ok, Err, get_or, length, replicate, set, take, eqb}
use mathlib.Core.List.{List, [], ◌∷◌, map, tail}
use Rattle.model.specs.declared.Call.{Call}
use Rattle.model.specs.declared.Call.TheVariants.{Take, Look, Leave, Place, Stop, Wake}
use Rattle.model.specs.declared.Gate.{Gate}
use Rattle.model.specs.declared.Record.{Record}
use Rattle.model.specs.declared.Ticket.{Ticket}
use Rattle.model.specs.Audit.{run}
use Rattle.model.specs.Calls.{Step, call, step}
use Rattle.model.specs.Opening.{opened}
use Rattle.model.specs.Claim.{queue_after, queue_slots, queue_trace}
use Rattle.model.specs.Lists.{all, numbers_from, one_if}
use Rattle.model.specs.Queue.{Queue, empty_queue, is_first, queue_call}
use Rattle.model.specs.Refusals.{Answered}
use Rattle.model.specs.Slices.{Lent, lent_of, open_lent, records_of}
use Rattle.model.specs.Slots.{Slots, open_slots, slot_call}
use Rattle.model.specs.Sound.{held, ticket_of}
use Rattle.model.specs.Steps.{is_valid, ticket}
use Rattle.model.specs.Letters.{is_letter, steps_of}
use Rattle.replay.specs.declared.not_replayed.NotReplayed.{NotReplayed}
use Rattle.replay.specs.declared.not_replayed.NotReplayed.TheVariants.{NotOpened, TooShort, NoSuchCall}
use Rattle.results.specs.Results.{Results, all_written, has_room, over}

-- Why an open that gave this answer was refused, if it was.
abbrev pub not_opened : Answered → Option NotReplayed
not_opened (Ok a) = None
not_opened (Err refusal) = Some (NotOpened refusal)

-- Why the calls are not run, if they are not: too little was lent, a letter is none of the six, or the open is refused.
unfoldable pub not_run : ℕ → ℕ → ℕ → List ℕ → List ℕ → Lent → Results → Option NotReplayed
not_run year n k calls plugins l w =
    cond (not (has_room (length calls) plugins w)) (Some TooShort)
    (cond (not (all is_letter calls)) (Some NoSuchCall) (not_opened (open_lent year n k l).answer))

-- What an accepted call enters into a ledger of tickets: a take its ticket for its plugin, a leave strikes it out.
abbrev pub entered : Call → ℕ → Ticket → List Ticket → List Ticket
entered Take p t ts = set ts (p - 1) t
entered Leave p t ts = set ts (p - 1) (ticket 0 0)
entered Look p t ts = ts
entered Place p t ts = ts
entered Stop p t ts = ts
entered Wake p t ts = ts

-- The ledger that a reader of the results keeps, from what was called and what was written out: a call is accepted when its number is 0.
unfoldable pub ledger_of : List Ticket → List Step → List ℕ → List ℕ → List ℕ → List Ticket
ledger_of ts [] numbers tickets shades = ts
ledger_of ts (step c p ∷ s) numbers tickets shades =
    ledger_of (cond (eqb (get_or numbers 0 0) 0) (entered c p (ticket (get_or tickets 0 0) (get_or shades 0 0)) ts) ts) s (tail numbers) (tail tickets) (tail shades)

-- The slots that a list of calls leaves, by the slot rule, which knows only what the queue said.
unfoldable pub slots_after : Queue → Slots → List Step → Slots
slots_after q x [] = x
slots_after q x (step c p ∷ s) = let r = queue_call c q p in slots_after r.queue (slot_call c p r.said x).slots s

-- The calls s, after the open (n, k), ran as the plain queue does. Their results stand in w' over what stood in w.
pub record AsQueue (n k : ℕ) (s : List Step) (w : Results) (gate : Gate) (l' : Lent) (w' : Results) : Type 0 where
  -- Each call's number, yes or no and place are the queue's.
  pub numbers_are : w'.numbers ≡ over (map (λ e. e.number) (queue_trace (empty_queue n k) s)) w.numbers
  pub verdicts_are : w'.verdicts ≡ over (map (λ e. one_if e.yes) (queue_trace (empty_queue n k) s)) w.verdicts
  pub places_are : w'.places ≡ over (map (λ e. e.place) (queue_trace (empty_queue n k) s)) w.places
  -- Every region and stop mark that the calls leave is the queue's.
  pub regions_are : l'.regions ≡ (queue_after (empty_queue n k) s).regions
  pub marks_are : l'.marks ≡ (queue_after (empty_queue n k) s).marks
  -- A plugin holds a ticket that is valid on the words returned exactly when it is among the queue's first k.
  pub valid-are :
      map (λ r. held r && is_valid gate (ticket_of r)) (records_of l') ≡ map (is_first (queue_after (empty_queue n k) s)) (numbers_from 1 n)
  -- The ticket in each record is the one that was written out for its plugin's last accepted take, 0/0 for an idle plugin.
  pub tickets_are : map ticket_of (records_of l') ≡ ledger_of (replicate n (ticket 0 0)) s w'.numbers w'.tickets w'.shades
  -- The slot that each call gave, 0 if none, and the slot that the calls leave in each record are the slot rule's.
  pub given_are : w'.given ≡ over (map (λ e. e.given) (queue_slots (empty_queue n k) (open_slots n k) s)) w.given
  pub slots_are : l'.slots ≡ (slots_after (empty_queue n k) (open_slots n k) s).owned

-- The answers of a list of calls on the gate.
unfoldable pub gate_answers : Gate → List Record → List Step → List Answered
gate_answers g l [] = []
gate_answers g l (step c p ∷ s) = let o = call c g l p in o.answer ∷ gate_answers o.gate o.list s

-- The calls s, after the open (year, n, k), ran as the steps of the algorithm prescribe: every word, every record, and all that was written
-- out, the tickets and the rules among it.
pub record AsSteps (year n k : ℕ) (s : List Step) (w : Results) (gate : Gate) (l' : Lent) (w' : Results) : Type 0 where
  pub gate_is : gate ≡ (run year n k s).gate
  pub slices_are : l' ≡ lent_of (run year n k s).list
  pub results_are : w' ≡ all_written (gate_answers (opened year n k).gate (opened year n k).list s) w

-- Nothing was run: all that was lent is as it was.
pub record Untouched (l : Lent) (w : Results) (l' : Lent) (w' : Results) : Type 0 where
  pub slices_are : l' ≡ l
  pub results_are : w' ≡ w

-- Why a replay failed, if it did.
abbrev pub failure : Result Gate NotReplayed → Option NotReplayed
failure (Ok gate) = None
failure (Err reason) = Some reason

-- What replay promises.
pub record Replays (year n k : ℕ) (calls plugins : List ℕ) (l : Lent) (w : Results) (replayed : Result Gate NotReplayed) (l' : Lent) (w' : Results) : Type 0 where
  pub failure_is : failure replayed ≡ not_run year n k calls plugins l w
  pub unless_ran : (reason : NotReplayed) → replayed ≡ Err reason → Untouched l w l' w'
  pub as_queue : (gate : Gate) → replayed ≡ Ok gate → AsQueue n k (steps_of calls plugins) w gate l' w'
  pub as_steps : (gate : Gate) → replayed ≡ Ok gate → AsSteps year n k (steps_of calls plugins) w gate l' w'

-- After the first i of the calls s of a replay that ran, with w' written out for all of them: what the claim says after each call.
pub record AfterFirst (i year n k : ℕ) (s : List Step) (w' : Results) : Type 0 where
  -- Every region and stop mark is the queue's.
  pub regions_are : map (λ r. r.region) (run year n k (take i s)).list ≡ (queue_after (empty_queue n k) (take i s)).regions
  pub marks_are : map (λ r. r.mark) (run year n k (take i s)).list ≡ (queue_after (empty_queue n k) (take i s)).marks
  -- A plugin holds a ticket that is valid on the words exactly when it is among the queue's first k.
  pub valid-are :
      map (λ r. held r && is_valid (run year n k (take i s)).gate (ticket_of r)) (run year n k (take i s)).list
      ≡ map (is_first (queue_after (empty_queue n k) (take i s))) (numbers_from 1 n)
  -- The ticket in each record is the one that was written out for its plugin's last accepted take, 0/0 for an idle plugin.
  pub tickets_are : map ticket_of (run year n k (take i s)).list ≡ ledger_of (replicate n (ticket 0 0)) (take i s) w'.numbers w'.tickets w'.shades
  -- The slot in each record is the slot rule's.
  pub slots_are : map (λ r. r.slot.0) (run year n k (take i s)).list ≡ (slots_after (empty_queue n k) (open_slots n k) (take i s)).owned

-- Whatever a replay ran, this holds after each of its calls.
abbrev pub AfterEachCall : Type 0
AfterEachCall =
    (year n k : ℕ) (calls plugins : List ℕ) (l : Lent) (w : Results) (gate : Gate) (l' : Lent) (w' : Results)
    → Replays year n k calls plugins l w (Ok gate) l' w' → (i : ℕ) → AfterFirst i year n k (steps_of calls plugins) w'
