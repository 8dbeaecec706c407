-- Document 01, "The calls": open, with document 02's slots (A.4) and years (A.8). What looks at the block has it as its first argument, b.
use Rattle.std.specs.Prelude.{Ok, ℕ, ◌+◌, Bool, not, ◌&&◌, List, ◌∷◌, replicate, length, eqb, leb}
use Rattle.model.specs.declared.Gate.{Gate}
use Rattle.model.specs.declared.Record.{Record}
use Rattle.model.specs.declared.Answer.TheVariants.{Done}
use Rattle.model.specs.declared.Refusal.TheVariants.{OutOfRange, WrongLength, TooManySlots}
use Rattle.model.specs.Lists.{numbers_from}
use Rattle.model.specs.Steps.{ticket, Block, is_year, overfull, year_block}
use Rattle.model.specs.Calls.{Outcome, free_row, idle_record, refuse}

-- "Opening: ISSUE is 0/0 (value/colour), VALID is k/0, the count of colour 0 is k, all others 0", with the block's first value for 0; A.8: "ISSUE 1/0
-- and VALID (k + 1)/0". "Slots are numbered 1 to k. .. at opening they lie in rising order."
abbrev pub opening_in : Block → ℕ → ℕ → ℕ → Gate
opening_in b year n k = record {
  year = year;
  n = n;
  k = k;
  issue = ticket b.first 0;
  valid = ticket (b.first + k) 0;
  counts = k ∷ replicate 64 0;
  free = free_row (numbers_from 1 k);
}

-- A refused open was given no words to keep: it returns words that are all 0.
abbrev pub no_gate : Gate
no_gate = record { year = 0; n = 0; k = 0; issue = ticket 0 0; valid = ticket 0 0; counts = replicate 65 0; free = replicate 64 0 }

-- "N is 1 to 1,024; k is 1 to 64 and may exceed N." A.8: "Opening names the year, 1979 or 1989".
unfoldable pub open_in_range : ℕ → ℕ → ℕ → Bool
open_in_range year n k = leb 1 n && leb n 1024 && leb 1 k && leb k 64 && is_year year

-- An accepted open: "the words are as at opening, all records idle and unmarked."
abbrev pub opened_in : Block → ℕ → ℕ → ℕ → Outcome
opened_in b year n k = record { gate = opening_in b year n k; list = replicate n idle_record; answer = Ok Done }

-- The same in the year's block.
abbrev pub opening : ℕ → ℕ → ℕ → Gate
opening year n k = opening_in (year_block year n k) year n k

abbrev pub opened : ℕ → ℕ → ℕ → Outcome
opened year n k = opened_in (year_block year n k) year n k

-- "Open (N, k). 1: N or k out of range. 2: the list's length is not N." A.8: "another year is refused as 1"; "10, open for 1979 with k not below N,
-- after 1".
unfoldable pub open_gate : ℕ → ℕ → ℕ → List Record → Outcome
open_gate year n k l =
    refuse (not (open_in_range year n k)) OutOfRange no_gate l
    (refuse (overfull year n k) TooManySlots no_gate l
    (refuse (not (eqb (length l) n)) WrongLength no_gate l (opened year n k)))

-- Open accepts this year, N and k: neither 1 nor 10 comes.
unfoldable pub open_accepts : ℕ → ℕ → ℕ → Bool
open_accepts year n k = open_in_range year n k && not (overfull year n k)
