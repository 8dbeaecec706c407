-- One line, by the fields that it is made of: the line, and the rest of the text after it.
use Rattle.std.specs.Prelude.{ℕ, cond, Option, Some, None, List, drop, eqb}
use Rattle.std.specs.Option.{option_and_then, option_map}
use Rattle.model.specs.declared.Call.{Call}
use Rattle.model.specs.declared.Line.{Line}
use Rattle.model.specs.declared.Line.TheVariants.{Open, Plugin}
use Rattle.model.specs.Schedule.{Reading, byte_at, line_feed, read_line}
use Rattle.schedule.specs.Field.{field_of}

-- ".. then a line feed": the line, if a line feed ends it.
unfoldable pub ended : Line → List ℕ → Option (Line × List ℕ)
ended line s = cond (eqb (byte_at s 0) line_feed) (Some (line, drop 1 s)) None

-- What follows a letter that names the call `c`: a field.
unfoldable pub call_read : Call → List ℕ → Option (Line × List ℕ)
call_read c s = option_and_then (λ p. ended (Plugin c p.0) p.1) (field_of s)

-- What follows the letter of an open: two fields.
unfoldable pub open_read : List ℕ → Option (Line × List ℕ)
open_read s = option_and_then (λ n. option_and_then (λ k. ended (Open n.0 k.0) k.1) (field_of n.1)) (field_of s)

-- A line of so many bytes, and the rest of the part after it.
abbrev pub line_after : Reading → List ℕ → Option (Line × List ℕ)
line_after r s = option_map (λ l. (l.0, drop l.1 s)) r

-- The grammar's line, and the rest of the part after it.
abbrev pub line_read : List ℕ → Option (Line × List ℕ)
line_read s = line_after (read_line s) s
