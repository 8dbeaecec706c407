-- The auditor's three questions, and that no slot is shared, as statements about every list of calls after an accepted open. They are proved in
-- proofs/Audit.antt.
--
-- Read before it: Claim, and what it cites.
use Rattle.std.specs.Prelude.{Ok, ℕ, suc, ◌-◌, ◌≤◌, ◌<◌, ◌≡◌, Bool, true, false, cond, ◌&&◌, List, [], ◌∷◌, get_or, set, replicate, eqb}
use Rattle.model.specs.declared.Ticket.{Ticket}
use Rattle.model.specs.declared.Call.{Call}
use Rattle.model.specs.declared.Call.TheVariants.{Take, Look, Leave, Place, Stop, Wake}
use Rattle.model.specs.declared.Answer.TheVariants.{Took}
use Rattle.model.specs.Lists.{count}
use Rattle.model.specs.Steps.{col, is_valid, val}
use Rattle.model.specs.Sound.{held, inside, ticket_of}
use Rattle.model.specs.Calls.{Outcome, Step, after, call, record_of, step}
use Rattle.model.specs.Opening.{open_accepts, opened}
use Rattle.model.specs.Claim.{Entry, gate_trace}

-- What a list of calls leaves, from an opening.
abbrev pub run : ℕ → ℕ → ℕ → List Step → Outcome
run year n k s = after (opened year n k).gate (opened year n k).list s

-- For each plugin, by which call it last took a ticket: the calls are numbered from i + 1 on, and `at` has what came before them. A take is
-- accepted when its number is 0.
abbrev pub is_take : Call → Bool
is_take Take = true
is_take Look = false
is_take Leave = false
is_take Place = false
is_take Stop = false
is_take Wake = false

unfoldable pub takes : ℕ → List ℕ → List Step → List Entry → List ℕ
takes i at [] es = at
takes i at (step c p ∷ s) [] = at
takes i at (step c p ∷ s) (e ∷ es) = takes (suc i) (cond (is_take c && eqb e.number 0) (set at (p - 1) (suc i)) at) s es

-- The number of the call by which plugin p last took a ticket, 0 if it took none.
abbrev pub taken_by : ℕ → ℕ → ℕ → List Step → ℕ → ℕ
taken_by year n k s p = get_or (takes 0 (replicate n 0) s (gate_trace (opened year n k).gate (opened year n k).list s)) (p - 1) 0

-- "Can any order of calls put k + 1 plugins inside?" Never: at most k are, stopped ones included.
abbrev pub NeverMoreThanK : Type 0
NeverMoreThanK = (year n k : ℕ) → open_accepts year n k ≡ true → (s : List Step) → count inside (run year n k s).list ≤ k

-- ".. or let one pass another that took its ticket earlier?" Never: if p took its ticket before q and both still have them, then p's is
-- valid whenever q's is.
abbrev pub NobodyPasses : Type 0
NobodyPasses =
    (year n k : ℕ) → open_accepts year n k ≡ true → (s : List Step) (p q : ℕ) → 1 ≤ p → p ≤ n → 1 ≤ q → q ≤ n
    → held (record_of (run year n k s).list p) ≡ true → held (record_of (run year n k s).list q) ≡ true → taken_by year n k s p < taken_by year n k s q
    → is_valid (run year n k s).gate (ticket_of (record_of (run year n k s).list q)) ≡ true
    → is_valid (run year n k s).gate (ticket_of (record_of (run year n k s).list p)) ≡ true

-- "How does the gate tell a fresh ticket from an old one of the same colour in a halted plugin's hands?" It never has to. Of the tickets that
-- are held when a take hands one out, stopped plugins' too, those of its colour have values below its own: they are of the same block and were
-- taken earlier. So nobody holds the ticket itself, and where it begins a block, with the first value, nobody holds any ticket of its colour.
abbrev pub FreshTicket : Type 0
FreshTicket =
    (year n k : ℕ) → open_accepts year n k ≡ true → (s : List Step) (p q : ℕ) (t : Ticket) → 1 ≤ q → q ≤ n
    → (call Take (run year n k s).gate (run year n k s).list p).answer ≡ Ok (Took t) → held (record_of (run year n k s).list q) ≡ true
    → col (ticket_of (record_of (run year n k s).list q)) ≡ col t → val (ticket_of (record_of (run year n k s).list q)) < val t

-- "each slot is free once or with one plugin inside": never do two plugins inside have one slot, and each has one of the slots 1 to k.
abbrev pub NoSharedSlot : Type 0
NoSharedSlot =
    (year n k : ℕ) → open_accepts year n k ≡ true → (s : List Step) (p q : ℕ) → 1 ≤ p → p ≤ n → 1 ≤ q → q ≤ n
    → inside (record_of (run year n k s).list p) ≡ true → inside (record_of (run year n k s).list q) ≡ true
    → (1 ≤ (record_of (run year n k s).list p).slot.0) × ((record_of (run year n k s).list p).slot.0 ≤ k)
    × ((record_of (run year n k s).list p).slot.0 ≡ (record_of (run year n k s).list q).slot.0 → p ≡ q)
