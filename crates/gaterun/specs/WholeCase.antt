-- Document 01's whole case: a schedule, and what gaterun prints for it.
use Rattle.std.specs.Prelude.{ℕ, List, [] as none, ◌∷◌ as ◌and◌}
use Prim.Native.Char.{code}
use Prim.Native.String.{String, [], ◌∷◌, ◌++◌}

-- The bytes of a text whose characters have one byte each.
unfoldable pub bytes : String → List ℕ
bytes [] = none
bytes (c ∷ s) = code c and bytes s

-- "Whole case, input `O 3 1`, T 1, T 2, L 2, T 3, L 1, L 3, B 1, L 2, B 2, T 3, L 3, B 3, a line each".
abbrev pub schedule : String
schedule =
    "O 3 1\n"
    ++ "T 1\n"
    ++ "T 2\n"
    ++ "L 2\n"
    ++ "T 3\n"
    ++ "L 1\n"
    ++ "L 3\n"
    ++ "B 1\n"
    ++ "L 2\n"
    ++ "B 2\n"
    ++ "T 3\n"
    ++ "L 3\n"
    ++ "B 3\n"

abbrev pub printed : String
printed =
    "O 3 1 0\n"
    ++ "T 1 0 1/0 1/0 1/0\n"
    ++ "T 2 0 2/0 2/0 1/0\n"
    ++ "L 2 0 0 2/0 1/0\n"
    ++ "T 3 0 0/1 0/1 1/0\n"
    ++ "L 1 0 1 0/1 1/0\n"
    ++ "L 3 0 0 0/1 1/0\n"
    ++ "B 1 0 - 0/1 2/0\n"
    ++ "L 2 0 1 0/1 2/0\n"
    ++ "B 2 0 - 0/1 0/1\n"
    ++ "T 3 6 - 0/1 0/1\n"
    ++ "L 3 0 1 0/1 0/1\n"
    ++ "B 3 0 - 0/1 1/1\n"
