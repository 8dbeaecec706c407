-- A.7: a turn after exactly so many returns, as one statement about every sound gate and every list of calls. It is proved in proofs/Turn.antt.
--
-- Read before it: Calls (`call_in`, `after_in`), Board (`SoundGate`), and what they cite.
use Rattle.std.specs.Prelude.{Ok, ℕ, ◌+◌, ◌<◌, ◌≤◌, ◌≡◌, Bool, true, false, ◌&&◌, List, [], ◌∷◌, length, eqb, leb}
use Rattle.model.specs.declared.Answer.TheVariants.{Placed}
use Rattle.model.specs.declared.Call.{Call}
use Rattle.model.specs.declared.Call.TheVariants.{Take, Look, Leave, Place, Stop, Wake}
use Rattle.model.specs.declared.Gate.{Gate}
use Rattle.model.specs.declared.Record.{Record}
use Rattle.model.specs.declared.Ticket.{Ticket}
use Rattle.model.specs.Board.{SoundGate}
use Rattle.model.specs.Calls.{Outcome, Step, after, after_in, call, call_in, record_of, step}
use Rattle.model.specs.Opening.{opened}
use Rattle.model.specs.Shown.{shown}
use Rattle.model.specs.Lists.{one_if}
use Rattle.model.specs.Sound.{held, ticket_of}
use Rattle.model.specs.Steps.{Block, is_valid}

abbrev pub is_leave : Call → Bool
is_leave Take = false
is_leave Look = false
is_leave Leave = true
is_leave Place = false
is_leave Stop = false
is_leave Wake = false

-- How many leaves of a list of calls are accepted, by the plugins that pass f: from inside and from waiting alike.
unfoldable pub leaves_in : Block → (ℕ → Bool) → Gate → List Record → List Step → ℕ
leaves_in b f g l [] = 0
leaves_in b f g l (step c p ∷ s) =
    let o = call_in b c g l p in
    one_if (f p && is_leave c && eqb (shown o.answer).number 0) + leaves_in b f o.gate o.list s

-- The same in the gate's own block.
unfoldable pub leaves : (ℕ → Bool) → Gate → List Record → List Step → ℕ
leaves f g l [] = 0
leaves f g l (step c p ∷ s) =
    let o = call c g l p in
    one_if (f p && is_leave c && eqb (shown o.answer).number 0) + leaves f o.gate o.list s

-- By whomever, and by plugin p alone.
abbrev pub anyone : ℕ → Bool
anyone x = true

abbrev pub only : ℕ → ℕ → Bool
only p x = eqb x p

-- What is so after a list of calls in which n leaves were accepted, for a plugin p whose ticket was t and whose place was r: it has that ticket
-- still, and "it is valid just when at least r leaves have been accepted since".
pub record TurnAfter (o : Outcome) (p : ℕ) (t : Ticket) (r n : ℕ) : Type 0 where
  pub still_held : held (record_of o.list p) ≡ true
  pub same_ticket_lem : ticket_of (record_of o.list p) ≡ t
  pub valid_when : is_valid o.gate t ≡ leb r n

-- "Let a sound gate answer place r to a waiting plugin. Through any later calls but an open, each on what the one before left, while the plugin
-- keeps that ticket, it is valid just when at least r leaves have been accepted since." The plugin keeps its ticket while it has had no accepted
-- leave. Any plugin numbers, refused calls included, in any block that fits.
abbrev pub TurnAfterReturns : Type 0
TurnAfterReturns =
    (b : Block) (g : Gate) (l : List Record) → SoundGate b g l → length g.counts ≡ 65 → (p r : ℕ) → (call_in b Place g l p).answer ≡ Ok (Placed r)
    → (s : List Step) → leaves_in b (only p) g l s ≡ 0 → TurnAfter (after_in b g l s) p (ticket_of (record_of l p)) r (leaves_in b anyone g l s)

-- The same in the gate's own block.
abbrev pub OwnTurnAfterReturns : Type 0
OwnTurnAfterReturns =
    (g : Gate) (l : List Record) → length g.counts ≡ 65 → length g.free ≡ 64 → (p r : ℕ) → (call Place g l p).answer ≡ Ok (Placed r)
    → (s : List Step) → leaves (only p) g l s ≡ 0 → TurnAfter (after g l s) p (ticket_of (record_of l p)) r (leaves anyone g l s)

-- For shops: the turn comes at the r-th accepted leave, at none earlier and at none later.
pub record TurnComes (o : Outcome) (t : Ticket) (r n : ℕ) : Type 0 where
  pub not_earlier : n < r → is_valid o.gate t ≡ false
  pub not_later : r ≤ n → is_valid o.gate t ≡ true

abbrev pub TurnIsExact : Type 0
TurnIsExact =
    (g : Gate) (l : List Record) → length g.counts ≡ 65 → length g.free ≡ 64 → (p r : ℕ) → (call Place g l p).answer ≡ Ok (Placed r)
    → (s : List Step) → leaves (only p) g l s ≡ 0 → TurnComes (after g l s) (ticket_of (record_of l p)) r (leaves anyone g l s)

-- "Keeps that ticket" is not "holds an equal ticket". This sentence is false: a plugin that leaves and takes again can be given an equal ticket,
-- once the colours have come round, and its turn is another one.
abbrev pub TurnOfEqualTicket : Type 0
TurnOfEqualTicket =
    (g : Gate) (l : List Record) → length g.counts ≡ 65 → length g.free ≡ 64 → (p r : ℕ) → (call Place g l p).answer ≡ Ok (Placed r)
    → (s : List Step) → held (record_of (after g l s).list p) ≡ true → ticket_of (record_of (after g l s).list p) ≡ ticket_of (record_of l p)
    → is_valid (after g l s).gate (ticket_of (record_of l p)) ≡ leb r (leaves anyone g l s)

-- A run that shows it. After `O 2 1` plugin 2 takes 0/1, and its place is 1. Both plugins leave and take twice: plugin 2 then holds 0/1 again,
-- four leaves have been accepted, and the ticket is not valid.
abbrev pub first_takes : Outcome
first_takes = after (opened 1989 2 1).gate (opened 1989 2 1).list (step Take 1 ∷ step Take 2 ∷ [])

abbrev pub leave_and_take_twice : List Step
leave_and_take_twice = step Leave 1 ∷ step Leave 2 ∷ step Take 1 ∷ step Take 2 ∷ step Leave 1 ∷ step Leave 2 ∷ step Take 1 ∷ step Take 2 ∷ []
