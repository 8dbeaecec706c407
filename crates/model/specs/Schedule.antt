-- Document 01, "Next call": the grammar of a line, and what next call answers and returns.
use Rattle.std.specs.Prelude.{ℕ, suc, ◌+◌, ◌-◌, ◌*◌, Bool, cond, ◌&&◌, Option, None, Some, Result, Ok, Err, List, [], ◌∷◌, get_or, take, drop, eqb, leb}
use Rattle.model.specs.declared.Call.TheVariants.{Take, Look, Leave, Place, Stop, Wake}
use Rattle.model.specs.declared.Line.{Line}
use Rattle.model.specs.declared.Line.TheVariants.{Open, Plugin}
use Rattle.model.specs.declared.NotALine.{NotALine}
use Rattle.model.specs.Lists.{implies}
use Rattle.model.specs.Refusals.{bad_line}

-- The byte at a place of a part, 0 past its end: no byte of the grammar is 0.
abbrev pub byte_at : List ℕ → ℕ → ℕ
byte_at s i = get_or s i 0

abbrev pub space : ℕ
space = 32

abbrev pub line_feed : ℕ
line_feed = 10

abbrev pub is_digit : ℕ → Bool
is_digit b = leb 48 b && leb b 57

-- How many digits a part begins with.
unfoldable pub digits : List ℕ → ℕ
digits [] = 0
digits (b ∷ s) = cond (is_digit b) (suc (digits s)) 0

-- Digits as a number in base ten, after those that came before it.
unfoldable pub number_from : ℕ → List ℕ → ℕ
number_from n [] = n
number_from n (b ∷ s) = number_from (n * 10 + (b - 48)) s

abbrev pub number : List ℕ → ℕ
number s = number_from 0 (take (digits s) s)

-- "A number has 1 to 4 digits, no leading zero except 0 itself."
unfoldable pub starts_number : List ℕ → Bool
starts_number s = leb 1 (digits s) && leb (digits s) 4 && implies (eqb (byte_at s 0) 48) (eqb (digits s) 1)

-- "Letters: T take, L look, B leave, P place, S stop, W wake."
unfoldable pub call_line : ℕ → ℕ → Option Line
call_line letter p =
    cond (eqb letter 84) (Some (Plugin Take p))
    (cond (eqb letter 76) (Some (Plugin Look p))
    (cond (eqb letter 66) (Some (Plugin Leave p))
    (cond (eqb letter 80) (Some (Plugin Place p)) (cond (eqb letter 83) (Some (Plugin Stop p)) (cond (eqb letter 87) (Some (Plugin Wake p)) None)))))

-- What a part begins with, and how many bytes the line has, if it is one.
abbrev pub Reading : Type 0
Reading = Option (Line × ℕ)

abbrev pub sized : Option Line → ℕ → Reading
sized None size = None
sized (Some line) size = Some (line, size)

-- ".. a letter, one space and a plugin number, then a line feed."
unfoldable pub read_call : List ℕ → Reading
read_call s =
    let p = drop 2 s in
    cond (eqb (byte_at s 1) space && starts_number p && eqb (byte_at p (digits p)) line_feed)
    (sized (call_line (byte_at s 0) (number p)) (3 + digits p))
    None

-- "A line is `O N k` ..", "then a line feed".
unfoldable pub read_open : List ℕ → Reading
read_open s =
    let n = drop 2 s in
    let k = drop (3 + digits n) s in
    cond
    (eqb (byte_at s 1) space && starts_number n && eqb (byte_at n (digits n)) space && starts_number k && eqb (byte_at k (digits k)) line_feed)
    (Some (Open (number n) (number k), 4 + digits n + digits k))
    None

unfoldable pub read_line : List ℕ → Reading
read_line s = cond (eqb (byte_at s 0) 79) (read_open s) (read_call s)

-- What next call answers, the end where there is no line, and the part that it returns.
pub record NextCall : Type 0 where
  pub answer : Result (Option Line) NotALine
  pub rest : List ℕ

-- "8: the part doesn't begin with a line of the grammar; the whole part is returned."
abbrev pub after_line : Reading → List ℕ → NextCall
after_line None s = record { answer = Err (record {}); rest = s }
after_line (Some (line, size)) s = record { answer = Ok (Some line); rest = drop size s }

-- "An empty part answers 'end' and returns that part. Otherwise it answers the call and returns the rest of the caller's own buffer after
-- the line."
unfoldable pub next_call : List ℕ → NextCall
next_call [] = record { answer = Ok None; rest = [] }
next_call (b ∷ s) = after_line (read_line (b ∷ s)) (b ∷ s)

-- The number of what next call answers: 8 for no line, else 0.
abbrev pub line_number : Result (Option Line) NotALine → ℕ
line_number (Ok line) = 0
line_number (Err no_line) = bad_line
