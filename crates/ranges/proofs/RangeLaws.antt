-- The clauses on ranges: what they say of the words.
--
-- Main statements: `words_use`, `words_i` (the test of the words and its nine facts), `size_most`, `last_most` (a block's last value is at most
-- 1,024).
use Prim.Native.Nat.{ℕ, ◌+◌, ◌≤◌}
use mathlib.Core.Path.{◌≡◌}
use mathlib.Core.Bool.{true}
use native.Mathlib.Omega.{arith}
use lib.Dec.{eqb, leb}
use borrow.Author.Tests.{le-leb, leb-true}
use Rattle.model.specs.declared.Gate.{Gate}
use Rattle.model.specs.Sound.{ticket_in_range, words_in_range, words_range_in, year_in_range}
use Rattle.model.specs.Steps.{Fits, InBlock, block, block1979, block_of, block_size, col, year_block}
use Rattle.model.proofs.IsSound.{ticket_i, ticket_use, year_fits}
use Rattle.model.proofs.Logic.{and_i, and_l, and_r, by_bool}

-- A year's block has at most 1,025 values, and none above 1,024.
pub size_most : (year n k : ℕ) → n ≤ 1024 → k ≤ 64 → (year_block year n k).size ≤ 1025
unfolding year_block block1979 block block_size
size_most year n k a b = by_bool (eqb year 1979) (λ e. rw e (omega arith)) (λ e. rw e (omega arith))

pub last_most : (year n k : ℕ) → n ≤ 1024 → k ≤ 64 → (year_block year n k).first + (year_block year n k).size ≤ 1025
unfolding year_block block1979 block block_size
last_most year n k a b = by_bool (eqb year 1979) (λ e. rw e (omega arith)) (λ e. rw e (omega arith))

-- What the test of the words says.
pub record WordsInRange (g : Gate) : Type 0 where
  pub n_low : 1 ≤ g.n
  pub n_high : g.n ≤ 1024
  pub k_low : 1 ≤ g.k
  pub k_high : g.k ≤ 64
  pub year_ok : year_in_range g.year g.n g.k ≡ true
  pub issue_in : InBlock (block_of g) g.issue
  pub issue_col : col g.issue ≤ g.k
  pub valid_in_lem : InBlock (block_of g) g.valid
  pub valid_col : col g.valid ≤ g.k

module _ (g : Gate) where
  abbrev Tests : Type 0
  Tests =
      (leb 1 g.n ≡ true) × (leb g.n 1024 ≡ true) × (leb 1 g.k ≡ true) × (leb g.k 64 ≡ true)
      × (ticket_in_range (block_of g) g.k g.issue ≡ true) × (ticket_in_range (block_of g) g.k g.valid ≡ true)
      × (year_in_range g.year g.n g.k ≡ true)

  tests : words_in_range g ≡ true → Tests
  unfolding words_range_in
  tests e = search (and_l, and_r) depth 9

  tests_i : Tests → words_in_range g ≡ true
  unfolding words_range_in
  tests_i r = search and_i depth 9

  pub words_use : words_in_range g ≡ true → WordsInRange g
  words_use e =
      let r = tests e in
      let i = ticket_use (block_of g) g.k g.issue r.4 in
      let v = ticket_use (block_of g) g.k g.valid r.5 in
      record {
        n_low = leb-true _ _ r.0;
        n_high = leb-true _ _ r.1;
        k_low = leb-true _ _ r.2;
        k_high = leb-true _ _ r.3;
        year_ok = r.6;
        issue_in = i.0;
        issue_col = i.1;
        valid_in_lem = v.0;
        valid_col = v.1;
      }

  pub words_i : WordsInRange g → words_in_range g ≡ true
  words_i s =
      tests_i (
        le-leb _ _ s.n_low,
        le-leb _ _ s.n_high,
        le-leb _ _ s.k_low,
        le-leb _ _ s.k_high,
        ticket_i (block_of g) g.k g.issue s.issue_in s.issue_col,
        ticket_i (block_of g) g.k g.valid s.valid_in_lem s.valid_col,
        s.year_ok,
      )

  -- N and k are small.
  pub words_most : words_in_range g ≡ true → (g.n ≤ 1024) × (g.k ≤ 64)
  words_most e = let s = words_use e in (s.n_high, s.k_high)

  pub words_fit : WordsInRange g → Fits (block_of g) g.n g.k
  words_fit s = year_fits g.year g.n g.k s.k_low s.year_ok
