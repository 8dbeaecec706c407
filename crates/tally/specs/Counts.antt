-- The tests of the counts, as the code makes them: over the bins, with no list of places.
use Rattle.std.specs.Prelude.{min, ℕ, ◌+◌, ◌-◌, ◌≡◌, Bool, cond, false, Option, MatchOption, List, get_or, eqb}
use Rattle.ranges.specs.declared.lead.Lead.{Lead}
use Rattle.model.specs.Lists.{all_below}
use Rattle.model.specs.Steps.{col, val}

-- How many of the places after ISSUE up to VALID are in ISSUE's block; the others are in VALID's.
unfoldable pub spare_within : Lead → ℕ
spare_within w = min w.ahead (w.first + w.size - 1 - val w.issue)

-- What the count of the colour c is to be: the records in its bin, and the places of c among `within` places of ISSUE's colour and
-- `beyond` places of VALID's.
abbrev pub count_sum : ℕ → ℕ → ℕ → ℕ → List ℕ → ℕ → ℕ
count_sum issue within valid beyond s c = get_or s c 0 + cond (eqb issue c) within 0 + cond (eqb valid c) beyond 0

unfoldable pub count_test : ℕ → ℕ → ℕ → ℕ → List ℕ → List ℕ → ℕ → Bool
count_test issue within valid beyond cs s c = eqb (get_or cs c 0) (count_sum issue within valid beyond s c)

-- The count of a colour is right.
abbrev pub count_is : Lead → List ℕ → List ℕ → ℕ → Bool
count_is w cs s = count_test (col w.issue) (spare_within w) (col w.valid) (w.ahead - spare_within w) cs s

-- A number is what the bin of the colour c has.
unfoldable pub bin_is : List ℕ → List ℕ → ℕ → Bool
bin_is left s c = eqb (get_or left c 0) (get_or s c 0)

-- What is left of the counts cs without their spare places, nothing if some count has fewer. Whatever s has in its bins: each count is
-- right just when what is left of it is in its bin, and if nothing is left, some count is wrong.
abbrev pub SpareSubtracted : Lead → List ℕ → Option (List ℕ) → Type 0
SpareSubtracted w cs r =
    MatchOption r
    ((s : List ℕ) → false ≡ all_below (count_is w cs s) 65)
    (λ left. (s : List ℕ) → all_below (bin_is left s) 65 ≡ all_below (count_is w cs s) 65)
