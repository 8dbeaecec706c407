-- A.2: what it is to hand back a turn, as a statement about every gate and list. It is proved in proofs/HandingBack.antt.
--
-- Read before it: Calls, and what it cites.
use Rattle.std.specs.Prelude.{Ok, ℕ, ◌≡◌, true, List}
use Rattle.model.specs.declared.Gate.{Gate}
use Rattle.model.specs.declared.Record.{Record}
use Rattle.model.specs.declared.Call.TheVariants.{Leave, Look}
use Rattle.model.specs.declared.Answer.TheVariants.{Done}
use Rattle.model.specs.Calls.{Outcome, call_in, record_of, with_free}
use Rattle.model.specs.Shown.{shown}
use Rattle.model.specs.Sound.{waiting}
use Rattle.model.specs.Steps.{Block, Fits}

-- What a call leaves, but with these free slots.
abbrev pub slots_kept : List ℕ → Outcome → Outcome
slots_kept free o = record { gate = with_free o.gate free; list = o.list; answer = o.answer }

-- p's leave is its look, answered yes, and then its leave: the same words, the same list, the same answer. The free slots alone are as they were
-- ("A handed-back turn returns no slot"), where those two calls move the first to the end.
pub record LookThenLeave (b : Block) (g : Gate) (l : List Record) (p : ℕ) : Type 0 where
  pub look_is_yes : (shown (call_in b Look g l p).answer).yes ≡ true
  pub leave_is_same : call_in b Leave g l p ≡ slots_kept g.free (call_in b Leave (call_in b Look g l p).gate (call_in b Look g l p).list p)

-- A waiting plugin's leave, if it is accepted, in any block that fits. A waiting plugin has no slot.
abbrev pub HandBack : Type 0
HandBack =
    (b : Block) (g : Gate) (l : List Record) (p : ℕ) → Fits b g.n g.k → waiting (record_of l p) ≡ true → (record_of l p).slot.0 ≡ 0
    → (call_in b Leave g l p).answer ≡ Ok Done
    → LookThenLeave b g l p
