-- Document 01, "Words and records" and "Steps of the 1989 algorithm"; and document 02's returns (A.1).
--
-- The block is a parameter, b: its first value and its size. The 1989 gate is the instance `block`, the 1979 gate (A.8) `block1979`. A name
-- that ends in `In` has the block as its first argument; the name without it is the same in the gate's own block, `block_of`.
use Rattle.std.specs.Prelude.{ℕ, zero, suc, ◌+◌, ◌-◌, ◌%◌, ◌<◌, ◌≤◌, max, Bool, not, cond, ◌&&◌, ◌||◌, get_or, eqb, ltb, leb}
use Rattle.model.specs.declared.Ticket.{Ticket}
use Rattle.model.specs.declared.Gate.{Gate}

-- "A ticket is a value and a colour." Document 01 writes it value/colour.
abbrev pub ticket : ℕ → ℕ → Ticket
ticket v c = record { value = record { 0 = v }; colour = record { 0 = c } }

abbrev pub val : Ticket → ℕ
val t = t.value.0

abbrev pub col : Ticket → ℕ
col t = t.colour.0

abbrev pub same_ticket : Ticket → Ticket → Bool
same_ticket a b = eqb (val a) (val b) && eqb (col a) (col b)

-- A block: the values `first` up to `first + size - 1`.
pub record Block : Type 0 where
  pub first : ℕ
  pub size : ℕ

abbrev pub last_value : Block → ℕ
last_value b = b.first + b.size - 1

-- The value of a ticket is one of the block's.
pub record InBlock (b : Block) (t : Ticket) : Type 0 where
  pub low : b.first ≤ val t
  pub high : val t < b.first + b.size

-- The block fits N plugins and k slots: its size is above k and above N − k. "A block of the larger of k and N − k places: the two leads
-- can no longer be told apart."
pub record Fits (b : Block) (n k : ℕ) : Type 0 where
  pub above_k : k < b.size
  pub above_rest : n - k < b.size

-- "The block size is M = 1 + the larger of k and N − k (so 1 + k when N is below k)." A difference here is never below 0.
unfoldable pub block_size : ℕ → ℕ → ℕ
block_size n k = 1 + max k (n - k)

-- "Values run 0 to M − 1": the block of a 1989 gate with N plugins and k slots.
unfoldable pub block : ℕ → ℕ → Block
block n k = record { first = 0; size = block_size n k }

-- A.8: "Under 1979 the block size is N, values run 1 to N".
unfoldable pub block1979 : ℕ → Block
block1979 n = record { first = 1; size = n }

-- "Opening names the year, 1979 or 1989, and the gate words keep it": the year picks the block.
unfoldable pub year_block : ℕ → ℕ → ℕ → Block
year_block year n k = cond (eqb year 1979) (block1979 n) (block n k)

abbrev pub block_of : Gate → Block
block_of g = year_block g.year g.n g.k

abbrev pub is_year : ℕ → Bool
is_year year = eqb year 1979 || eqb year 1989

-- "1979 with k not below N"
abbrev pub overfull : ℕ → ℕ → ℕ → Bool
overfull year n k = eqb year 1979 && not (ltb k n)

-- "A leads B: with equal colours, when A's value is at least B's; with different colours, when A's value is below B's."
unfoldable pub leads : Ticket → Ticket → Bool
leads a b = cond (eqb (col a) (col b)) (leb (val b) (val a)) (ltb (val a) (val b))

-- "New colour: go upward from the colour of the word that moves, from k on to 0."
unfoldable pub next_colour : ℕ → ℕ → ℕ
next_colour k c = cond (ltb c k) (c + 1) 0

-- ".. with count 0 that is neither ISSUE's nor VALID's."
unfoldable pub free_colour : Gate → ℕ → Bool
free_colour g c = eqb (get_or g.counts c 0) 0 && not (eqb c (col g.issue)) && not (eqb c (col g.valid))

-- "Take the first colour ..": the first that is free, of at most `fuel` colours upward from c; the last of them if none is.
unfoldable pub scan : (ℕ → Bool) → ℕ → ℕ → ℕ → ℕ
scan free k zero c = c
scan free k (suc fuel) c = let rest = scan free k fuel (next_colour k c) in cond (free (next_colour k c)) (next_colour k c) rest

-- The k other colours are looked at.
unfoldable pub new_colour : Gate → ℕ → ℕ
new_colour g c = scan (free_colour g) g.k g.k c

-- "Take: if ISSUE's value is below M − 1, add 1. Otherwise ISSUE gets a new colour if ISSUE leads VALID, else VALID's colour; its
-- value becomes 0." The word `a` moves and `other` is the other word: in a take ISSUE and VALID, in a leave "the same rule with ISSUE
-- and VALID exchanged".
unfoldable pub moved : Block → Gate → Ticket → Ticket → Ticket
moved b g a other =
    cond (ltb (val a) (last_value b)) (ticket (val a + 1) (col a))
    (ticket b.first (cond (leads a other) (new_colour g (col a)) (col other)))

-- "Valid: if the ticket has VALID's colour, its value is not above VALID's. Otherwise its colour's count is above 0."
unfoldable pub is_valid : Gate → Ticket → Bool
is_valid g t = cond (eqb (col t) (col g.valid)) (leb (val t) (val g.valid)) (ltb 0 (get_or g.counts (col t) 0))

-- "the distance is the remainder of its value + M − VALID's value by M"
unfoldable pub distance_in : Block → Gate → Ticket → ℕ
distance_in b g t = (val t + b.size - val g.valid) % b.size

-- A.1: "the number of returns until the ticket is valid: 0 for a valid ticket, the distance for another".
unfoldable pub returns_in : Block → Gate → Ticket → ℕ
returns_in b g t = cond (is_valid g t) 0 (distance_in b g t)

-- The same in the gate's own block.
abbrev pub distance : Gate → Ticket → ℕ
distance g t = distance_in (block_of g) g t

abbrev pub returns : Gate → Ticket → ℕ
returns g t = returns_in (block_of g) g t
