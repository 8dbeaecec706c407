-- How large a year, N and k in range are.
use Prim.Native.Nat.{ℕ, ◌≤◌}
use mathlib.Core.Path.{◌≡◌}
use mathlib.Core.Bool.{true, ◌&&◌}
use mathlib.Core.Logic.{⊎_elim}
use native.Mathlib.Omega.{arith}
use lib.Dec.{eqb, leb}
use borrow.Author.Tests.{eqb-true}
use Rattle.model.specs.Opening.{open_in_range}
use Rattle.model.proofs.Logic.{and_r, or_cases}
use Rattle.model.proofs.Opening.{in_range}

pub record Small (year n k : ℕ) : Type 0 where
  pub year_most : year ≤ 1989
  pub n_most : n ≤ 1024
  pub k_most : k ≤ 64

pub small : (year n k : ℕ) → open_in_range year n k ≡ true → Small year n k
unfolding open_in_range
small year n k e =
    let sizes = in_range year n k e in
    record {
      year_most =
          ⊎_elim (λ y. omega (arith, eqb-true year 1979 y)) (λ y. omega (arith, eqb-true year 1989 y))
          (or_cases (eqb year 1979) (eqb year 1989) (and_r (leb 1 n && leb n 1024 && leb 1 k && leb k 64) _ e));
      n_most = sizes.1;
      k_most = sizes.3;
    }
