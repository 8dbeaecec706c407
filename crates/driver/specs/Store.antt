-- What the host has, and has printed after a line.
use Rattle.std.specs.Prelude.{ℕ, ◌+◌, ◌≤◌, ◌≡◌, Bool, ◌&&◌, List, ◌++◌, leb, length}
use Rattle.driver.specs.declared.host.Host.{Host as Kept}
use Rattle.model.specs.Refusals.{Answered}
use Rattle.driver.specs.Playing.{Host, Performed, Turn}

-- The host as the definitions have it.
abbrev pub host_of : Kept → Host
host_of h = record { gate = h.gate; list = h.list.items }

-- N and k are in range.
abbrev pub in_range : ℕ → ℕ → Bool
in_range n k = leb 1 n && leb n 1024 && leb 1 k && leb k 64

-- What the code has after an open or a call is what the definition says, and the answer too.
pub record Did (o : Performed) (after : Host) (answer : Answered) : Type 0 where
  pub host_is : after ≡ o.host
  pub answer_is : answer ≡ o.answer

-- The longest line.
abbrev pub line_room : ℕ
line_room = 50

-- What the code has after a line, and has printed, is what the definition says. A line prints at most 50 bytes.
pub record Turned (t : Turn) (before printed : List ℕ) (after : Host) : Type 0 where
  pub host_is : after ≡ t.host
  pub text_is : printed ≡ before ++ t.text
  pub short : length printed ≤ length before + line_room
