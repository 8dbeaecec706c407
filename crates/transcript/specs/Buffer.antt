-- A text appended to a buffer.
use Rattle.std.specs.Prelude.{ℕ, ◌+◌, ◌≤◌, ◌<◌, ◌≡◌, List, ◌++◌, length}

-- What a public call promises, of a buffer for `capacity` bytes. Where it has room for `room` bytes more, the text is appended to it. Where it has
-- room for fewer, nothing is written.
pub record Puts (room : ℕ) (text : List ℕ) (capacity : ℕ) (before after : List ℕ) : Type 0 where
  pub written : length before + room ≤ capacity → after ≡ before ++ text
  pub short : length after ≤ length before + room
  pub untouched : capacity < length before + room → after ≡ before

-- A text that was appended, of at most `room` bytes.
pub record Wrote (room : ℕ) (text : List ℕ) (before after : List ℕ) : Type 0 where
  pub bytes : after ≡ before ++ text
  pub short : length after ≤ length before + room
