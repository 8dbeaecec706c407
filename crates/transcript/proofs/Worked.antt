-- Document 01's worked case (†), as gaterun prints it: the lines of `O 3 1` and of the rows that the model proves for the twelve calls are the paper's
-- own, byte for byte. Assumes nothing.
use Prim.Native.Nat.{ℕ}
use mathlib.Core.Path.{◌≡◌, refl}
use mathlib.Core.List.{List, [], ◌∷◌}
use Rattle.model.specs.Calls.{Step, step}
use Rattle.model.specs.Table.{Row, shows, worked_calls, worked_rows}
use Rattle.transcript.specs.Lines.{decimal_in, decimal, ticket_text, answer_text, call_line_text, open_line_text}

-- The lines of calls and of the rows that they give.
pub lines_of : List Step → List Row → List (List ℕ)
lines_of [] rows = []
lines_of (s ∷ calls) [] = []
lines_of (step c p ∷ calls) (shows number answer issue valid ∷ rows) = call_line_text c p answer issue valid ∷ lines_of calls rows

-- The paper's lines, the first of them `O 3 1 0` and the last `B 3 0 - 0/1 1/1`.
pub printed : List (List ℕ)
printed =
    (79 ∷ 32 ∷ 51 ∷ 32 ∷ 49 ∷ 32 ∷ 48 ∷ 10 ∷ [])
    ∷ (84 ∷ 32 ∷ 49 ∷ 32 ∷ 48 ∷ 32 ∷ 49 ∷ 47 ∷ 48 ∷ 32 ∷ 49 ∷ 47 ∷ 48 ∷ 32 ∷ 49 ∷ 47 ∷ 48 ∷ 10 ∷ [])
    ∷ (84 ∷ 32 ∷ 50 ∷ 32 ∷ 48 ∷ 32 ∷ 50 ∷ 47 ∷ 48 ∷ 32 ∷ 50 ∷ 47 ∷ 48 ∷ 32 ∷ 49 ∷ 47 ∷ 48 ∷ 10 ∷ [])
    ∷ (76 ∷ 32 ∷ 50 ∷ 32 ∷ 48 ∷ 32 ∷ 48 ∷ 32 ∷ 50 ∷ 47 ∷ 48 ∷ 32 ∷ 49 ∷ 47 ∷ 48 ∷ 10 ∷ [])
    ∷ (84 ∷ 32 ∷ 51 ∷ 32 ∷ 48 ∷ 32 ∷ 48 ∷ 47 ∷ 49 ∷ 32 ∷ 48 ∷ 47 ∷ 49 ∷ 32 ∷ 49 ∷ 47 ∷ 48 ∷ 10 ∷ [])
    ∷ (76 ∷ 32 ∷ 49 ∷ 32 ∷ 48 ∷ 32 ∷ 49 ∷ 32 ∷ 48 ∷ 47 ∷ 49 ∷ 32 ∷ 49 ∷ 47 ∷ 48 ∷ 10 ∷ [])
    ∷ (76 ∷ 32 ∷ 51 ∷ 32 ∷ 48 ∷ 32 ∷ 48 ∷ 32 ∷ 48 ∷ 47 ∷ 49 ∷ 32 ∷ 49 ∷ 47 ∷ 48 ∷ 10 ∷ [])
    ∷ (66 ∷ 32 ∷ 49 ∷ 32 ∷ 48 ∷ 32 ∷ 45 ∷ 32 ∷ 48 ∷ 47 ∷ 49 ∷ 32 ∷ 50 ∷ 47 ∷ 48 ∷ 10 ∷ [])
    ∷ (76 ∷ 32 ∷ 50 ∷ 32 ∷ 48 ∷ 32 ∷ 49 ∷ 32 ∷ 48 ∷ 47 ∷ 49 ∷ 32 ∷ 50 ∷ 47 ∷ 48 ∷ 10 ∷ [])
    ∷ (66 ∷ 32 ∷ 50 ∷ 32 ∷ 48 ∷ 32 ∷ 45 ∷ 32 ∷ 48 ∷ 47 ∷ 49 ∷ 32 ∷ 48 ∷ 47 ∷ 49 ∷ 10 ∷ [])
    ∷ (84 ∷ 32 ∷ 51 ∷ 32 ∷ 54 ∷ 32 ∷ 45 ∷ 32 ∷ 48 ∷ 47 ∷ 49 ∷ 32 ∷ 48 ∷ 47 ∷ 49 ∷ 10 ∷ [])
    ∷ (76 ∷ 32 ∷ 51 ∷ 32 ∷ 48 ∷ 32 ∷ 49 ∷ 32 ∷ 48 ∷ 47 ∷ 49 ∷ 32 ∷ 48 ∷ 47 ∷ 49 ∷ 10 ∷ [])
    ∷ (66 ∷ 32 ∷ 51 ∷ 32 ∷ 48 ∷ 32 ∷ 45 ∷ 32 ∷ 48 ∷ 47 ∷ 49 ∷ 32 ∷ 49 ∷ 47 ∷ 49 ∷ 10 ∷ [])
    ∷ []

pub worked_lines : (open_line_text 3 1 0 ∷ lines_of worked_calls worked_rows) ≡ printed
unfolding decimal_in decimal ticket_text answer_text call_line_text open_line_text lines_of printed
worked_lines = refl
