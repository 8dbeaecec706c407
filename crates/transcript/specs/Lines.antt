-- Document 01, "What gaterun prints": the bytes of each line.
use Rattle.std.specs.Prelude.{ℕ, zero, suc, ◌+◌, ◌/◌, ◌%◌, cond, Ok, Err, List, [], ◌∷◌, ◌++◌, ltb}
use Rattle.model.specs.declared.Ticket.{Ticket}
use Rattle.model.specs.declared.Call.{Call}
use Rattle.model.specs.declared.Answer.TheVariants.{Took, Looked, Placed, Done}
use Rattle.model.specs.Shown.{shown}
use Rattle.model.specs.Letters.{call_letter}
use Rattle.model.specs.Lists.{one_if}
use Rattle.model.specs.Refusals.{Answered}
use Rattle.model.specs.Schedule.{space, line_feed}

-- "Numbers are written in base ten": the digits of `n`, the last of them the remainder by ten. `turns` bounds how many they are.
unfoldable pub decimal_in : ℕ → ℕ → List ℕ
decimal_in zero n = []
decimal_in (suc turns) n =
    let front = decimal_in turns (n / 10) in
    cond (ltb n 10) ((48 + n) ∷ []) (front ++ ((48 + n % 10) ∷ []))

-- `n` in base ten, without leading zeros; 0 is `0`. A number has at most one digit more than it counts.
unfoldable pub decimal : ℕ → List ℕ
decimal n = decimal_in (suc n) n

-- ".. parted by single spaces"
abbrev pub spaced : List ℕ → List ℕ
spaced text = space ∷ text

-- ".. with a ticket as value/colour"
unfoldable pub ticket_text : Ticket → List ℕ
ticket_text t = decimal t.value.0 ++ (47 ∷ []) ++ decimal t.colour.0

-- ".. answer (`-` if none; always `-` for a refusal)", with "yes as 1 and no as 0".
unfoldable pub answer_text : Answered → List ℕ
answer_text (Ok (Took t)) = ticket_text t
answer_text (Ok (Looked v)) = decimal (one_if (shown (Ok (Looked v))).yes)
answer_text (Ok (Placed n)) = decimal n
answer_text (Ok Done) = 45 ∷ []
answer_text (Err refusal) = 45 ∷ []

-- "Each call gives a line: letter, plugin, number, answer, ISSUE, VALID".
unfoldable pub call_line_text : Call → ℕ → Answered → Ticket → Ticket → List ℕ
call_line_text c p a issue valid =
    (call_letter c ∷ [])
    ++ spaced (decimal p)
    ++ spaced (decimal (shown a).number)
    ++ spaced (answer_text a)
    ++ spaced (ticket_text issue)
    ++ spaced (ticket_text valid)
    ++ (line_feed ∷ [])

-- "An open prints `O N k` and its number."
unfoldable pub open_line_text : ℕ → ℕ → ℕ → List ℕ
open_line_text n k number = (79 ∷ []) ++ spaced (decimal n) ++ spaced (decimal k) ++ spaced (decimal number) ++ (line_feed ∷ [])

-- "A bad line prints `bad`", "a longer input prints only `long`".
unfoldable pub word_text : List ℕ → List ℕ
word_text word = word ++ (line_feed ∷ [])

-- How many bytes each may take: five for a number of sixteen bits, two numbers and the stroke between them for a ticket.
abbrev pub number_room : ℕ
number_room = 5

abbrev pub ticket_room : ℕ
ticket_room = 11

abbrev pub open_line_room : ℕ
open_line_room = 20

abbrev pub call_line_room : ℕ
call_line_room = 50
