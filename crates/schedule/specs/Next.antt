-- What next call promises of its answer and of the rest that it returns.
use Rattle.std.specs.Prelude.{ℕ, ◌+◌, ◌≡◌, Option, Result, List, length}
use Rattle.std.specs.Borrow.{Bor}
use Rattle.model.specs.declared.Line.{Line}
use Rattle.model.specs.declared.NotALine.{NotALine}
use Rattle.model.specs.Schedule.{NextCall, line_number}

-- The answer is what the definition gives, and so is its number.
pub record NextIs (n : NextCall) (answer : Result (Option Line) NotALine) : Type 0 where
  pub answer_is : answer ≡ n.answer
  pub number_is : line_number answer ≡ line_number n.answer

-- The text `r` lies in the buffer of `s` and ends at the same byte. A reference's `ref_ptr` is a block of memory and an offset there, in bytes.
pub record SameEnd (s r : Bor (List ℕ)) : Type 0 where
  pub same_buffer : r.ref_ptr.0 ≡ s.ref_ptr.0
  pub same_end : r.ref_ptr.1 + length r.now ≡ s.ref_ptr.1 + length s.now
