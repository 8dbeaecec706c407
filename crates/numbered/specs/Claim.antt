-- A.9 as statements: that the numbered gate is the 1989 gate, over whole lists of calls, and when it answers 11. They are proved in
-- proofs/NumberedIsGate.antt and proofs/Eleven.antt.
--
-- Read before it: Calls (the numbered gate), and of the crate `model` Claim (`Entry`, `gate_trace`, `queue_trace`) and what it cites.
use Rattle.std.specs.Prelude.{ℕ, ◌%◌, ◌≤◌, ◌≡◌, Bool, true, false, cond, not, ◌&&◌, ◌||◌, List, [], ◌∷◌, map, ◌⊎◌, length, eqb, ltb}
use Rattle.numbered.specs.declared.NumberedGate.{NumberedGate}
use Rattle.numbered.specs.declared.NumberedRecord.{NumberedRecord}
use Rattle.model.specs.declared.Call.{Call}
use Rattle.model.specs.declared.Call.TheVariants.{Take, Look, Leave, Place, Stop, Wake}
use Rattle.model.specs.Lists.{all}
use Rattle.model.specs.Steps.{block_size, val}
use Rattle.model.specs.Calls.{Outcome, Step, after, step}
use Rattle.model.specs.Opening.{opened}
use Rattle.model.specs.Queue.{empty_queue}
use Rattle.model.specs.Claim.{Entry, gate_trace, queue_trace}
use Rattle.numbered.specs.Sound.{has_ticket, is_idle, not_above_valid, sizes_allowed, sound_numbered}
use Rattle.model.specs.Refusals.{counter_full}
use Rattle.numbered.specs.Calls.{NumberedOutcome, after_numbered, call_numbered, greatest, opened_numbered, record_at, shown_numbered, waits_above}

-- What is compared after each call: the entry of the coloured gate and of the queue, here by the numbered gate's answer, its records, and which
-- tickets are not above VALID.
abbrev pub numbered_entry : NumberedOutcome → Entry
numbered_entry o = record {
  number = (shown_numbered o.answer).number;
  yes = (shown_numbered o.answer).yes;
  place = (shown_numbered o.answer).place;
  regions = map (λ r. r.region) o.list;
  marks = map (λ r. r.mark) o.list;
  valid = map (λ r. has_ticket r && not_above_valid o.gate r.ticket) o.list;
}

-- The entries of a list of calls, each call on what the one before left.
unfoldable pub numbered_trace : NumberedGate → List NumberedRecord → List Step → List Entry
numbered_trace g l [] = []
numbered_trace g l (step c p ∷ s) = let o = call_numbered c g l p in numbered_entry o ∷ numbered_trace o.gate o.list s

-- No call of the list is answered 11.
abbrev pub no_eleven : List Entry → Bool
no_eleven es = all (λ e. not (eqb e.number counter_full)) es

-- The same open and calls on the numbered gate and on the 1989 gate: the trace, and what they leave.
abbrev pub numbered_entries : ℕ → ℕ → List Step → List Entry
numbered_entries n k s = numbered_trace (opened_numbered n k).gate (opened_numbered n k).list s

abbrev pub numbered_run : ℕ → ℕ → List Step → NumberedOutcome
numbered_run n k s = after_numbered (opened_numbered n k).gate (opened_numbered n k).list s

abbrev pub gate_entries : ℕ → ℕ → List Step → List Entry
gate_entries n k s = gate_trace (opened 1989 n k).gate (opened 1989 n k).list s

abbrev pub gate_run : ℕ → ℕ → List Step → Outcome
gate_run n k s = after (opened 1989 n k).gate (opened 1989 n k).list s

-- The claim for an open (N, k) and the calls s after it.
pub record NumberedClaim (n k : ℕ) (s : List Step) : Type 0 where
  -- "it answers as the 1989 gate, tickets, slots and rules left aside": after each call every number, yes or no, place, region, stop mark and
  -- validity is the 1989 gate's; and the plain queue's.
  pub as_gate : numbered_entries n k s ≡ gate_entries n k s
  pub as_queue : numbered_entries n k s ≡ queue_trace (empty_queue n k) s
  -- "the coloured value of ISSUE, VALID and each ticket is the number's remainder by M"
  pub issue_is : val (gate_run n k s).gate.issue ≡ (numbered_run n k s).gate.issue % block_size n k
  pub valid_is : val (gate_run n k s).gate.valid ≡ (numbered_run n k s).gate.valid % block_size n k
  pub tickets_are : map (λ r. r.value.0) (gate_run n k s).list ≡ map (λ r. r.ticket % block_size n k) (numbered_run n k s).list

-- "Given the same open and calls, ..": the claim for every N and k that open accepts and every list of calls of which none is answered 11, any plugin
-- numbers, refused calls included. The front of a list of calls is one too, so it holds after each call.
abbrev pub NumberedIsGate : Type 0
NumberedIsGate = (n k : ℕ) → sizes_allowed n k ≡ true → (s : List Step) → no_eleven (numbered_entries n k s) ≡ true → NumberedClaim n k s

-- ".. until its first 11": of every list of calls, those before the first that is answered 11.
unfoldable pub before_eleven : NumberedGate → List NumberedRecord → List Step → List Step
before_eleven g l [] = []
before_eleven g l (step c p ∷ s) =
    let o = call_numbered c g l p in
    let rest = step c p ∷ before_eleven o.gate o.list s in
    cond (eqb (shown_numbered o.answer).number counter_full) [] rest

abbrev pub UntilFirstEleven : Type 0
UntilFirstEleven =
    (n k : ℕ) → sizes_allowed n k ≡ true → (s : List Step)
    → NumberedClaim n k (before_eleven (opened_numbered n k).gate (opened_numbered n k).list s)

-- The counter that a call raises is already 18,446,744,073,709,551,615: ISSUE in a take, VALID in a leave. The other calls raise none.
abbrev pub counter_at_end : Call → NumberedGate → Bool
counter_at_end Take g = eqb g.issue greatest
counter_at_end Leave g = eqb g.valid greatest
counter_at_end Look g = false
counter_at_end Place g = false
counter_at_end Stop g = false
counter_at_end Wake g = false

-- A take or a leave that meets none of the refusals before 11: 2, 3, 4, 5, then a take's 6, a leave's 6 and 9.
abbrev pub in_its_region : Call → NumberedGate → NumberedRecord → Bool
in_its_region Take g r = is_idle r
in_its_region Leave g r = not (is_idle r) && not (waits_above g r)
in_its_region Look g r = false
in_its_region Place g r = false
in_its_region Stop g r = false
in_its_region Wake g r = false

unfoldable pub would_raise : Call → NumberedGate → List NumberedRecord → ℕ → Bool
would_raise c g l p =
    eqb (length l) g.n && sound_numbered g l && not (eqb p 0 || ltb g.n p) && not (eqb (record_at l p).mark 1) && in_its_region c g (record_at l p)

-- "11, a counter is already 18,446,744,073,709,551,615 and the call would raise it": exactly then, whatever the words and the list.
abbrev pub ElevenExactly : Type 0
ElevenExactly =
    (c : Call) (g : NumberedGate) (l : List NumberedRecord) (p : ℕ)
    → eqb (shown_numbered (call_numbered c g l p).answer).number counter_full ≡ (would_raise c g l p && counter_at_end c g)

-- So 11 comes only to a take with ISSUE, or a leave with VALID, at that number.
abbrev pub ElevenOnlyAtEnd : Type 0
ElevenOnlyAtEnd =
    (c : Call) (g : NumberedGate) (l : List NumberedRecord) (p : ℕ) → (shown_numbered (call_numbered c g l p).answer).number ≡ counter_full
    → ((c ≡ Take) × (g.issue ≡ greatest)) ⊎ ((c ≡ Leave) × (g.valid ≡ greatest))

-- And a refused call, an 11 too, leaves words and list as they were.
pub record Unchanged (o : NumberedOutcome) (g : NumberedGate) (l : List NumberedRecord) : Type 0 where
  pub gate_is : o.gate ≡ g
  pub list_is : o.list ≡ l

abbrev pub RefusedChangesNothing : Type 0
RefusedChangesNothing =
    (c : Call) (g : NumberedGate) (l : List NumberedRecord) (p : ℕ) → eqb (shown_numbered (call_numbered c g l p).answer).number 0 ≡ false
    → Unchanged (call_numbered c g l p) g l

-- Every call leaves a sound gate sound. That the counters are at most the greatest number is what their type says.
abbrev pub CallsKeepSound : Type 0
CallsKeepSound =
    (g : NumberedGate) (l : List NumberedRecord) → g.issue ≤ greatest → g.valid ≤ greatest → sound_numbered g l ≡ true → length l ≡ g.n
    → (c : Call) (p : ℕ) → sound_numbered (call_numbered c g l p).gate (call_numbered c g l p).list ≡ true
