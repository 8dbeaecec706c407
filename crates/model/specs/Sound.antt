-- Document 01, "A sound gate": one definition for each clause, and `sound_in`, which decides all that speak of tickets. A clause that looks at the
-- block has it as its first argument, b. Document 02's slots (A.4) have a conjunct of their own, `slots_sound`; `sound` is both, in the gate's own
-- block.
use Rattle.std.specs.Prelude.{ℕ, zero, suc, ◌+◌, ◌-◌, Bool, true, not, cond, ◌&&◌, List, [], ◌∷◌, get_or, eqb, ltb, leb}
use Rattle.model.specs.declared.Ticket.{Ticket}
use Rattle.model.specs.declared.Gate.{Gate}
use Rattle.model.specs.declared.Record.{Record}
use Rattle.model.specs.Lists.{implies, count, all, any, all_below}
use Rattle.model.specs.Steps.{ticket, val, col, same_ticket, Block, last_value, block_of, is_year, leads, overfull}

-- "The lead d is VALID's value less ISSUE's, if the colours are equal. With different colours, add M if VALID's value is the smaller,
-- else subtract M." It is written as two numbers, of which one is 0: VALID (v) is ahead of ISSUE (i) by d, or behind it by −d.
unfoldable pub ahead : ℕ → Ticket → Ticket → ℕ
ahead m i v =
    cond (eqb (col i) (col v)) (val v - val i)
    (cond (ltb (val v) (val i)) (val v + m - val i) 0)

unfoldable pub behind : ℕ → Ticket → Ticket → ℕ
behind m i v =
    cond (eqb (col i) (col v)) (val i - val v)
    (cond (ltb (val v) (val i)) 0 (val i + m - val v))

abbrev pub ahead_in : Block → Gate → ℕ
ahead_in b g = ahead b.size g.issue g.valid

abbrev pub behind_in : Block → Gate → ℕ
behind_in b g = behind b.size g.issue g.valid

-- "The places after one word up to the other go up by 1; the last value of a block is followed by 0 in the other word's colour (c)." In any
-- block the first value stands for 0.
unfoldable pub next_place : Block → ℕ → Ticket → Ticket
next_place b c t = cond (ltb (val t) (last_value b)) (ticket (val t + 1) (col t)) (ticket b.first c)

unfoldable pub places : Block → ℕ → Ticket → ℕ → List Ticket
places b c t zero = []
places b c t (suc n) = next_place b c t ∷ places b c (next_place b c t) n

-- The places after VALID up to ISSUE: tickets handed out and not yet valid.
unfoldable pub pending_in : Block → Gate → List Ticket
pending_in b g = places b (col g.issue) g.valid (behind_in b g)

-- The places after ISSUE up to VALID: tickets made valid and not yet handed out.
unfoldable pub spare_in : Block → Gate → List Ticket
spare_in b g = places b (col g.valid) g.issue (ahead_in b g)

-- "A record has a region (0 idle, 1 waiting, 2 inside)". A plugin that is not idle holds its record's ticket.
abbrev pub idle : Record → Bool
idle r = eqb r.region 0

abbrev pub waiting : Record → Bool
waiting r = eqb r.region 1

abbrev pub inside : Record → Bool
inside r = eqb r.region 2

abbrev pub held : Record → Bool
held r = not (idle r)

abbrev pub ticket_of : Record → Ticket
ticket_of r = record { value = r.value; colour = r.colour }

abbrev pub holds : Ticket → Record → Bool
holds t r = held r && same_ticket t (ticket_of r)

abbrev pub among : Ticket → List Ticket → Bool
among t ts = any (λ s. same_ticket t s) ts

-- The record holds a ticket that is none of the places ps.
abbrev pub holds_other : List Ticket → Record → Bool
holds_other ps r = held r && not (among (ticket_of r) ps)

-- Words and list are sound when all of this is true.

-- "N, k, values, colours .. are in range": of the words.
unfoldable pub ticket_in_range : Block → ℕ → Ticket → Bool
ticket_in_range b k t = leb b.first (val t) && ltb (val t) (b.first + b.size) && leb (col t) k

-- A.8: "Words of another year, or of 1979 with k not below N, are not sound."
unfoldable pub year_in_range : ℕ → ℕ → ℕ → Bool
year_in_range year n k = is_year year && not (overfull year n k)

unfoldable pub words_range_in : Block → Gate → Bool
words_range_in b g =
    leb 1 g.n && leb g.n 1024 && leb 1 g.k && leb g.k 64
    && ticket_in_range b g.k g.issue && ticket_in_range b g.k g.valid && year_in_range g.year g.n g.k

-- "counts above colour k are 0"
unfoldable pub counts_above_zero : Gate → Bool
counts_above_zero g = all_below (λ c. implies (ltb g.k c) (eqb (get_or g.counts c 0) 0)) 65

-- ".. values, colours, regions and marks are in range; .. an idle record's value and colour are 0 and it holds no ticket."
unfoldable pub record_in_range : Block → ℕ → Record → Bool
record_in_range b k r =
    leb r.region 2 && leb r.mark 1
    && cond (idle r) (eqb r.value.0 0 && eqb r.colour.0 0) (ticket_in_range b k (ticket_of r))

unfoldable pub records_in_range : Block → Gate → List Record → Bool
records_in_range b g l = all (record_in_range b g.k) l

-- "d is at most k and at least −(N − k), or at least 0 if N is not above k."
unfoldable pub lead_range_in : Block → Gate → Bool
lead_range_in b g = leb (ahead_in b g) g.k && leb (behind_in b g) (g.n - g.k)

-- "No two records hold one ticket."
unfoldable pub tickets_distinct : List Record → Bool
tickets_distinct l = all (λ r. implies (held r) (leb (count (holds (ticket_of r)) l) 1)) l

-- "A held ticket of ISSUE's colour has a value not above ISSUE's."
unfoldable pub none_above_issue : Gate → List Record → Bool
none_above_issue g l = all (λ r. implies (held r && eqb r.colour.0 (col g.issue)) (leb r.value.0 (val g.issue))) l

-- "If VALID leads and the colours differ, no held ticket has VALID's colour."
unfoldable pub valid_colour_unheld : Gate → List Record → Bool
valid_colour_unheld g l =
    implies (leads g.valid g.issue && not (eqb (col g.issue) (col g.valid)))
    (all (λ r. implies (held r) (not (eqb r.colour.0 (col g.valid)))) l)

-- "If d is negative, each of the −d places after VALID up to ISSUE is held by a waiting plugin."
unfoldable pub pending_awaited : Block → Gate → List Record → Bool
pending_awaited b g l = all (λ t. any (λ r. waiting r && same_ticket t (ticket_of r)) l) (pending_in b g)

-- "All other held tickets number k, less d if d is positive."
unfoldable pub others_number_k : Block → Gate → List Record → Bool
others_number_k b g l = eqb (count (holds_other (pending_in b g)) l + ahead_in b g) g.k

-- "If d is 0 or less, VALID's own ticket is held."
unfoldable pub valid_held : Block → Gate → List Record → Bool
valid_held b g l = implies (eqb (ahead_in b g) 0) (any (holds g.valid) l)

-- "No plugin inside holds one of those places after VALID."
unfoldable pub none_pending_inside : Block → Gate → List Record → Bool
none_pending_inside b g l = all (λ r. not (inside r && among (ticket_of r) (pending_in b g))) l

-- "The count of a colour is its held tickets outside those places, plus its places after ISSUE up to VALID where d is positive."
unfoldable pub count_right : Block → Gate → List Record → ℕ → Bool
count_right b g l c =
    eqb (get_or g.counts c 0)
    (count (λ r. holds_other (pending_in b g) r && eqb r.colour.0 c) l + count (λ t. eqb (col t) c) (spare_in b g))

unfoldable pub counts_right : Block → Gate → List Record → Bool
counts_right b g l = all_below (count_right b g l) 65

unfoldable pub sound_in : Block → Gate → List Record → Bool
sound_in b g l =
    words_range_in b g && counts_above_zero g && records_in_range b g l && lead_range_in b g && tickets_distinct l && none_above_issue g l
    && valid_colour_unheld g l && pending_awaited b g l && others_number_k b g l && valid_held b g l && none_pending_inside b g l && counts_right b g l

-- The same in the gate's own block.
abbrev pub ahead_of : Gate → ℕ
ahead_of g = ahead_in (block_of g) g

abbrev pub behind_of : Gate → ℕ
behind_of g = behind_in (block_of g) g

abbrev pub pending : Gate → List Ticket
pending g = pending_in (block_of g) g

abbrev pub spare : Gate → List Ticket
spare g = spare_in (block_of g) g

abbrev pub words_in_range : Gate → Bool
words_in_range g = words_range_in (block_of g) g

abbrev pub lead_in_range : Gate → Bool
lead_in_range g = lead_range_in (block_of g) g

-- The slots. "The words gain 64 places for the free slots in order, 0 after the last": slots 1 to k, then zeros only.
unfoldable pub free_in_order : ℕ → List ℕ → Bool
free_in_order k [] = true
free_in_order k (s ∷ row) = cond (eqb s 0) (all (λ x. eqb x 0) row) (leb s k && free_in_order k row)

-- "a record gains its slot, 0 unless inside"; "each plugin inside has one of the slots 1 to k"
unfoldable pub slot_in_range : ℕ → Record → Bool
slot_in_range k r = cond (inside r) (leb 1 r.slot.0 && leb r.slot.0 k) (eqb r.slot.0 0)

-- "each slot is free once or with one plugin inside", and not both.
abbrev pub inside_with : ℕ → Record → Bool
inside_with s r = inside r && eqb r.slot.0 s

unfoldable pub slot_once : Gate → List Record → ℕ → Bool
slot_once g l s = eqb (count (λ x. eqb x s) g.free + count (inside_with s) l) 1

unfoldable pub slots_sound : Gate → List Record → Bool
slots_sound g l = free_in_order g.k g.free && all (slot_in_range g.k) l && all_below (λ i. slot_once g l (suc i)) g.k

-- A sound gate: the tickets, in the gate's own block, and the slots.
abbrev pub sound : Gate → List Record → Bool
sound g l = sound_in (block_of g) g l && slots_sound g l
