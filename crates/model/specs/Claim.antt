-- Demand 3 as one statement: whatever is called after an opening, the gate answers and stands as the plain queue does.
--
-- Read before it: Queue (the plain queue), Calls (what a call on the gate answers and leaves), and what Calls cites.
use Rattle.std.specs.Prelude.{Ok, Err, ℕ, ◌-◌, ◌≡◌, Bool, true, ◌&&◌, List, [], ◌∷◌, map, set, replicate}
use Rattle.model.specs.declared.Ticket.{Ticket}
use Rattle.model.specs.declared.Gate.{Gate}
use Rattle.model.specs.declared.Record.{Record}
use Rattle.model.specs.declared.Call.{Call}
use Rattle.model.specs.declared.Call.TheVariants.{Take, Look, Leave, Place, Stop, Wake}
use Rattle.model.specs.declared.Answer.TheVariants.{Took, Looked, Placed, Done}
use Rattle.model.specs.Refusals.{Answered}
use Rattle.model.specs.Steps.{Block, Fits, ticket, is_valid}
use Rattle.model.specs.Lists.{numbers_from}
use Rattle.model.specs.Sound.{held, ticket_of}
use Rattle.model.specs.Calls.{Outcome, Step, call, call_in, step}
use Rattle.model.specs.Opening.{open_accepts, opened, opened_in}
use Rattle.model.specs.Shown.{shown}
use Rattle.model.specs.Queue.{Queue, Reply, empty_queue, is_first, queue_call}
use Rattle.model.specs.Slots.{Slots, open_slots, slot_call}

-- What is compared after each call: its number, yes or no, and place; every plugin's region and stop mark; and for every plugin whether
-- it holds a valid ticket.
pub record Entry : Type 0 where
  pub number : ℕ
  pub yes : Bool
  pub place : ℕ
  pub regions : List ℕ
  pub marks : List ℕ
  pub valid : List Bool

-- Of the gate, by its answer, its records, and the rule Valid on the words left.
abbrev pub gate_entry : Outcome → Entry
gate_entry o = record {
  number = (shown o.answer).number;
  yes = (shown o.answer).yes;
  place = (shown o.answer).place;
  regions = map (λ r. r.region) o.list;
  marks = map (λ r. r.mark) o.list;
  valid = map (λ r. held r && is_valid o.gate (ticket_of r)) o.list;
}

-- Of the queue, by what it said and keeps: valid is, who is among the first k of the row.
abbrev pub queue_entry : Reply → Entry
queue_entry r = record {
  number = r.said.number;
  yes = r.said.yes;
  place = r.said.place;
  regions = r.queue.regions;
  marks = r.queue.marks;
  valid = map (is_first r.queue) (numbers_from 1 r.queue.n);
}

-- The entries of a list of calls, each call on what the one before left.
unfoldable pub gate_trace : Gate → List Record → List Step → List Entry
gate_trace g l [] = []
gate_trace g l (step c p ∷ s) = let o = call c g l p in gate_entry o ∷ gate_trace o.gate o.list s

-- The same in any block, one for all the calls.
unfoldable pub gate_trace_in : Block → Gate → List Record → List Step → List Entry
gate_trace_in b g l [] = []
gate_trace_in b g l (step c p ∷ s) = let o = call_in b c g l p in gate_entry o ∷ gate_trace_in b o.gate o.list s

unfoldable pub queue_trace : Queue → List Step → List Entry
queue_trace q [] = []
queue_trace q (step c p ∷ s) = let r = queue_call c q p in queue_entry r ∷ queue_trace r.queue s

-- What a list of calls leaves of the queue.
unfoldable pub queue_after : Queue → List Step → Queue
queue_after q [] = q
queue_after q (step c p ∷ s) = queue_after (queue_call c q p).queue s

-- A ledger of tickets, written only by what accepted calls answered: a take notes its ticket for its plugin, a leave strikes it out.
abbrev pub noted : Call → Answered → ℕ → List Ticket → List Ticket
noted c (Ok (Took t)) p ts = set ts (p - 1) t
noted Leave (Ok Done) p ts = set ts (p - 1) (ticket 0 0)
noted Take (Ok Done) p ts = ts
noted Look (Ok Done) p ts = ts
noted Place (Ok Done) p ts = ts
noted Stop (Ok Done) p ts = ts
noted Wake (Ok Done) p ts = ts
noted c (Ok (Looked v)) p ts = ts
noted c (Ok (Placed n)) p ts = ts
noted c (Err r) p ts = ts

-- The tickets in the records after each call, and the ledger after each call.
unfoldable pub gate_tickets : Gate → List Record → List Step → List (List Ticket)
gate_tickets g l [] = []
gate_tickets g l (step c p ∷ s) = let o = call c g l p in map ticket_of o.list ∷ gate_tickets o.gate o.list s

unfoldable pub ledger : Gate → List Record → List Ticket → List Step → List (List Ticket)
ledger g l ts [] = []
ledger g l ts (step c p ∷ s) =
    let o = call c g l p in
    noted c o.answer p ts ∷ ledger o.gate o.list (noted c o.answer p ts) s

-- The slot that a call gave and every record's slot, after each call; and the same of the slot rule, fed by the queue.
pub record SlotEntry : Type 0 where
  pub given : ℕ
  pub slots : List ℕ

unfoldable pub gate_slots : Gate → List Record → List Step → List SlotEntry
gate_slots g l [] = []
gate_slots g l (step c p ∷ s) =
    let o = call c g l p in
    record { given = (shown o.answer).slot; slots = map (λ r. r.slot.0) o.list } ∷ gate_slots o.gate o.list s

unfoldable pub queue_slots : Queue → Slots → List Step → List SlotEntry
queue_slots q x [] = []
queue_slots q x (step c p ∷ s) =
    let r = queue_call c q p in
    let h = slot_call c p r.said x in
    record { given = h.given; slots = h.slots.owned } ∷ queue_slots r.queue h.slots s

-- The claim for an open (year, N, k) and the calls s after it, any plugin numbers, refused calls included.
pub record Claim (year n k : ℕ) (s : List Step) : Type 0 where
  -- After each call: every number, yes or no, place, region and stop mark is the queue's, and a plugin holds a valid ticket exactly when
  -- it is among the queue's first k.
  pub as_queue : gate_trace (opened year n k).gate (opened year n k).list s ≡ queue_trace (empty_queue n k) s
  -- After each call: the ticket in each record is the one that its plugin's last accepted take answered, 0/0 for an idle plugin.
  pub as_taken : gate_tickets (opened year n k).gate (opened year n k).list s ≡ ledger (opened year n k).gate (opened year n k).list (replicate n (ticket 0 0)) s
  -- After each call: the slot that a yes gave, and the slot in each record, are those of the slot rule, which knows only what the queue said.
  pub as_slots : gate_slots (opened year n k).gate (opened year n k).list s ≡ queue_slots (empty_queue n k) (open_slots n k) s

-- Demand 3: the claim for every year, N and k that open accepts and every list of calls. The queue does not look at the year.
abbrev pub GateIsQueue : Type 0
GateIsQueue = (year n k : ℕ) → open_accepts year n k ≡ true → (s : List Step) → Claim year n k s

-- What the gate answers and how it stands, `as_queue`, does not hang on the year's block: it is the queue's in every block that fits, whatever
-- its first value.
abbrev pub AnyBlockIsQueue : Type 0
AnyBlockIsQueue =
    (b : Block) (year n k : ℕ) → open_accepts year n k ≡ true → Fits b n k → (s : List Step)
    → gate_trace_in b (opened_in b year n k).gate (opened_in b year n k).list s ≡ queue_trace (empty_queue n k) s
