-- A field of a line.
use Rattle.std.specs.Prelude.{ℕ, cond, Option, None, Some, List, drop, eqb}
use Rattle.model.specs.Schedule.{byte_at, space, digits, number, starts_number}

-- The number that a text begins with, and the rest of the text.
unfoldable pub number_read : List ℕ → Option (ℕ × List ℕ)
number_read s = cond (starts_number s) (Some (number s, drop (digits s) s)) None

-- "one space and a plugin number".
unfoldable pub field_of : List ℕ → Option (ℕ × List ℕ)
field_of s = cond (eqb (byte_at s 0) space) (number_read (drop 1 s)) None
