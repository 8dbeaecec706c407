-- Worked comparisons (A.6): two gates opened with the same N and k, of 1989 where no year is named, each after a list of calls of its own, and what alike says of them. They are
-- what the definitions give, by computation (proofs/Comparisons.antt).
--
-- Read before it: Calls.
use Rattle.std.specs.Prelude.{ℕ, Bool, Result, List, [], ◌∷◌}
use Rattle.model.specs.declared.Call.TheVariants.{Take, Leave, Stop}
use Rattle.model.specs.declared.Refusal.{Refusal}
use Rattle.model.specs.Calls.{Step, after, step}
use Rattle.model.specs.Opening.{opened}
use Rattle.model.specs.Alike.{alike}

-- What alike says of the gates after the calls s and the calls t, each of its own year.
abbrev pub compared_after : ℕ → ℕ → ℕ → ℕ → List Step → List Step → Result Bool Refusal
compared_after year year' n k s t =
    let o = after (opened year n k).gate (opened year n k).list s in
    let u = after (opened year' n k).gate (opened year' n k).list t in
    alike o.gate o.list u.gate u.list

-- All three plugins wait, in the order of their numbers. After `O 3 1` the ticket of plugin 1 alone is valid, after `O 3 2` those of 1 and 2.
abbrev pub in_order : List Step
in_order = step Take 1 ∷ step Take 2 ∷ step Take 3 ∷ []

-- Plugin 3 is before plugin 2. After `O 3 1` every region, mark and validity is as before, and only the order is another: unlike.
abbrev pub third_before_second : List Step
third_before_second = step Take 1 ∷ step Take 3 ∷ step Take 2 ∷ []

-- Plugin 2 is before plugin 1. After `O 3 1` every region and mark is as before, but another ticket is valid: unlike. After `O 3 2` both
-- tickets are valid, and it does not matter who has which: alike.
abbrev pub second_before_first : List Step
second_before_first = step Take 2 ∷ step Take 1 ∷ step Take 3 ∷ []

-- One of them is stopped: unlike.
abbrev pub one_stopped : List Step
one_stopped = step Take 1 ∷ step Take 2 ∷ step Take 3 ∷ step Stop 3 ∷ []

-- A turn was handed back before. After `O 3 1` every ticket is another, and of the two that are not yet valid the one that comes first has the
-- smaller value, where it had the larger: alike. So they are if the one gate is of 1979 (A.8).
abbrev pub after_one_handed_back : List Step
after_one_handed_back = step Take 1 ∷ step Leave 1 ∷ in_order

-- Three turns were handed back, so that after `O 3 1` both words have moved by a whole block: the values are the same and the colours exchanged.
-- Alike.
abbrev pub after_three_handed_back : List Step
after_three_handed_back = step Take 1 ∷ step Leave 1 ∷ step Take 1 ∷ step Leave 1 ∷ step Take 1 ∷ step Leave 1 ∷ in_order
