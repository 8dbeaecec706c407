-- The words of a new gate, or the refusal of an open: document 01's 1, document 02's 10 (A.8), and then 2.
use Rattle.std.specs.Prelude.{ℕ, Bool, cond, not, Result, Ok, Err}
use Rattle.model.specs.declared.Gate.{Gate}
use Rattle.model.specs.declared.Refusal.{Refusal}
use Rattle.model.specs.declared.Refusal.TheVariants.{OutOfRange, TooManySlots, WrongLength}
use Rattle.model.specs.Opening.{open_in_range, opening}
use Rattle.model.specs.Steps.{overfull}

-- By the year, N and k, and whether the list's length is N.
unfoldable pub opens : ℕ → ℕ → ℕ → Bool → Result Gate Refusal
opens year n k has_length =
    cond (not (open_in_range year n k)) (Err OutOfRange)
    (cond (overfull year n k) (Err TooManySlots) (cond has_length (Ok (opening year n k)) (Err WrongLength)))
