-- Document 01's plain queue of demand 3, with document 02's places (A.1) and turns handed back (A.2). "Nothing of the gate's words, records or
-- answers reaches it."
use Rattle.std.specs.Prelude.{ℕ, suc, ◌-◌, Bool, true, false, not, cond, ◌&&◌, ◌||◌, List, [], ◌∷◌, ◌++◌, get_or, set, take, replicate, eqb, ltb}
use Rattle.model.specs.declared.Call.{Call}
use Rattle.model.specs.declared.Call.TheVariants.{Take, Look, Leave, Place, Stop, Wake}
use Rattle.model.specs.Lists.{any}
use Rattle.model.specs.Refusals.{no_such_plugin, is_stopped, wrong_region, not_stopped, not_yet_valid}

-- "It keeps N, k, a row of plugin numbers, and each plugin's region and stop mark."
pub record Queue : Type 0 where
  pub n : ℕ
  pub k : ℕ
  pub row : List ℕ
  pub regions : List ℕ
  pub marks : List ℕ

-- What the queue answers: a number, a yes or no, a place. It knows of no ticket.
pub record Said : Type 0 where
  pub number : ℕ
  pub yes : Bool
  pub place : ℕ

pub record Reply : Type 0 where
  pub queue : Queue
  pub said : Said

-- "A refused call answers only its number .. (a yes is no, a place is 0)". "An accepted one has number 0".
abbrev pub refusal : ℕ → Said
refusal n = record { number = n; yes = false; place = 0 }

abbrev pub accepted : Said
accepted = record { number = 0; yes = false; place = 0 }

abbrev pub yes_or_no : Bool → Said
yes_or_no b = record { number = 0; yes = b; place = 0 }

abbrev pub place_is : ℕ → Said
place_is n = record { number = 0; yes = false; place = n }

-- A refused call "changes nothing".
abbrev pub queue_refuse : Bool → ℕ → Queue → Reply → Reply
queue_refuse true n q r = record { queue = q; said = refusal n }
queue_refuse false n q r = r

-- "At first the row is empty and all are idle and unmarked."
abbrev pub empty_queue : ℕ → ℕ → Queue
empty_queue n k = record { n = n; k = k; row = []; regions = replicate n 0; marks = replicate n 0 }

abbrev pub region_of : Queue → ℕ → ℕ
region_of q p = get_or q.regions (p - 1) 0

abbrev pub mark_of : Queue → ℕ → ℕ
mark_of q p = get_or q.marks (p - 1) 0

abbrev pub with_row : Queue → List ℕ → ℕ → ℕ → Queue
with_row q row p region = record { n = q.n; k = q.k; row = row; regions = set q.regions (p - 1) region; marks = q.marks }

abbrev pub with_mark : Queue → ℕ → ℕ → Queue
with_mark q p mark = record { n = q.n; k = q.k; row = q.row; regions = q.regions; marks = set q.marks (p - 1) mark }

-- The row without p.
unfoldable pub without : ℕ → List ℕ → List ℕ
without p [] = []
without p (x ∷ xs) = cond (eqb x p) xs (x ∷ without p xs)

-- "p's position, counted from 1"
unfoldable pub position : ℕ → List ℕ → ℕ
position p [] = 0
position p (x ∷ xs) = cond (eqb x p) 1 (suc (position p xs))

-- "In the queue a ticket is valid just when its holder is among the first k of the row."
abbrev pub is_first : Queue → ℕ → Bool
is_first q p = any (λ x. eqb x p) (take q.k q.row)

-- The accepted calls. "Take appends p to the row; p waits."
abbrev pub took : Queue → ℕ → Reply
took q p = record { queue = with_row q (q.row ++ (p ∷ [])) p 1; said = accepted }

-- "Look is yes exactly when p is among the first k; a yes puts p inside, a no changes nothing."
abbrev pub looked_at : Queue → ℕ → Reply
looked_at q p = cond (is_first q p) (record { queue = with_row q q.row p 2; said = yes_or_no true }) (record { queue = q; said = yes_or_no false })

-- "Leave removes p from the row; p is idle."
abbrev pub gone : Queue → ℕ → Reply
gone q p = record { queue = with_row q (without p q.row) p 0; said = accepted }

-- A.1: "The queue's place becomes the position less k, never below 0."
abbrev pub place_of : Queue → ℕ → Reply
place_of q p = record { queue = q; said = place_is (position p q.row - q.k) }

-- "Stop sets p's mark, wake clears it."
abbrev pub marked_as : ℕ → Queue → ℕ → Reply
marked_as m q p = record { queue = with_mark q p m; said = accepted }

-- p waits and is not among the first k.
abbrev pub waits_behind : Queue → ℕ → Bool
waits_behind q p = eqb (region_of q p) 1 && not (is_first q p)

-- "A call meets the refusals given for it above from 4 on, in that order, judged by its arguments and by what the queue keeps".
unfoldable pub queue_called : Call → Queue → ℕ → Reply
queue_called Take q p = queue_refuse (eqb (mark_of q p) 1) is_stopped q (queue_refuse (not (eqb (region_of q p) 0)) wrong_region q (took q p))
queue_called Look q p = queue_refuse (eqb (mark_of q p) 1) is_stopped q (queue_refuse (not (eqb (region_of q p) 1)) wrong_region q (looked_at q p))
-- A.2: "The queue drops such a plugin from its first k".
queue_called Leave q p =
    queue_refuse (eqb (mark_of q p) 1) is_stopped q
    (queue_refuse (eqb (region_of q p) 0) wrong_region q (queue_refuse (waits_behind q p) not_yet_valid q (gone q p)))
queue_called Place q p = queue_refuse (eqb (mark_of q p) 1) is_stopped q (queue_refuse (not (eqb (region_of q p) 1)) wrong_region q (place_of q p))
queue_called Stop q p = queue_refuse (eqb (mark_of q p) 1) is_stopped q (marked_as 1 q p)
queue_called Wake q p = queue_refuse (eqb (mark_of q p) 0) not_stopped q (marked_as 0 q p)

unfoldable pub queue_call : Call → Queue → ℕ → Reply
queue_call c q p = queue_refuse (eqb p 0 || ltb q.n p) no_such_plugin q (queue_called c q p)
