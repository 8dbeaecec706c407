-- Document 01, "The calls": alike, as document 02 has it (A.6). What looks at the block has it as its first argument; each gate has one of its own.
use Rattle.std.specs.Prelude.{Result, Ok, Err, Bool, true, false, not, cond, ◌&&◌, List, get_or, length, eqb, ltb}
use Rattle.model.specs.declared.Gate.{Gate}
use Rattle.model.specs.declared.Record.{Record}
use Rattle.model.specs.declared.Refusal.{Refusal}
use Rattle.model.specs.declared.Refusal.TheVariants.{WrongLength, NotSound}
use Rattle.model.specs.Lists.{all_below, implies}
use Rattle.model.specs.Steps.{Block, block_of, is_valid, distance_in}
use Rattle.model.specs.Sound.{ticket_of, sound, held}
use Rattle.model.specs.Calls.{idle_record}

-- A.6: "Alike now means equal N and k; the same region and stop mark for each plugin, and the same validity for each that holds a ticket; and
-- the same order among tickets not yet valid." Each gate has a block of its own.

-- Both pass, or neither does.
abbrev pub agree : Bool → Bool → Bool
agree x y = cond x y (not y)

-- One plugin, r its record in the one gate and s in the other: the same region and stop mark and, if it holds a ticket, the same validity.
unfoldable pub same_plugin : Gate → Record → Gate → Record → Bool
same_plugin g r h s =
    eqb r.region s.region && eqb r.mark s.mark && implies (held r) (agree (is_valid g (ticket_of r)) (is_valid h (ticket_of s)))

-- It holds a ticket not yet valid.
abbrev pub holds_invalid : Gate → Record → Bool
holds_invalid g r = held r && not (is_valid g (ticket_of r))

-- The ticket of r comes before that of s: its distance is the smaller one.
abbrev pub before_in : Block → Gate → Record → Record → Bool
before_in b g r s = ltb (distance_in b g (ticket_of r)) (distance_in b g (ticket_of s))

-- Two plugins, r and s their records in the one gate, r' and s' in the other: if their tickets are both not yet valid, they have the same order.
unfoldable pub same_order : Block → Gate → Record → Record → Block → Gate → Record → Record → Bool
same_order b g r s c h r' s' = implies (holds_invalid g r && holds_invalid g s) (agree (before_in b g r s) (before_in c h r' s'))

unfoldable pub alike_in : Block → Gate → List Record → Block → Gate → List Record → Bool
alike_in b g l c h m =
    eqb g.n h.n && eqb g.k h.k
    && all_below (λ i. same_plugin g (get_or l i idle_record) h (get_or m i idle_record)) g.n
    && all_below (λ i. all_below (λ j. same_order b g (get_or l i idle_record) (get_or l j idle_record) c h (get_or m i idle_record) (get_or m j idle_record)) g.n) g.n

unfoldable pub compared : Gate → List Record → Gate → List Record → Result Bool Refusal
compared g l h m = cond (alike_in (block_of g) g l (block_of h) h m) (Ok true) (Ok false)

-- "Alike (two gates). 2 for the first, 2 for the second, 3 for the first, 3 for the second."
unfoldable pub alike : Gate → List Record → Gate → List Record → Result Bool Refusal
alike g l h m =
    cond (not (eqb (length l) g.n)) (Err WrongLength)
    (cond (not (eqb (length m) h.n)) (Err WrongLength)
    (cond (not (sound g l)) (Err NotSound) (cond (not (sound h m)) (Err NotSound) (compared g l h m))))
