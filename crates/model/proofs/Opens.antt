-- Open, by whether it accepts its year, N and k: what it answers and leaves, on a list and on slices.
--
-- Main statements: `gate_refused`, `gate_wrong`, `gate_opened`; on slices: `lent_refused`, `lent_wrong`, `lent_opened`.
use Prim.Native.Nat.{ℕ}
use mathlib.Core.Path.{refl, ◌≡◌}
use mathlib.Core.Bool.{cond, false, true}
use mathlib.Core.List.{List}
use lib.ListN.{length}
use lib.Dec.{eqb}
use borrow.Author.Tests.{not-true}
use Rattle.model.specs.declared.Refusal.{Refusal}
use Rattle.model.specs.declared.Refusal.TheVariants.{OutOfRange, TooManySlots, WrongLength}
use Rattle.std.specs.Prelude.{Err}
use Rattle.model.specs.declared.Record.{Record}
use Rattle.model.specs.Opening.{no_gate, open_accepts, open_gate, open_in_range, opened}
use Rattle.model.specs.Slices.{Lent, length_is, on_slices, open_lent, refused_lent}
use Rattle.model.specs.Steps.{overfull}
use Rattle.model.proofs.Logic.{and_i, and_l, and_r, by_bool, clash, not_not}

module _ (year n k : ℕ) where
  accepts_i : open_in_range year n k ≡ true → overfull year n k ≡ false → open_accepts year n k ≡ true
  unfolding open_accepts
  accepts_i r o = and_i (open_in_range year n k) _ r (not_not _ o)

  pub accepts_use : open_accepts year n k ≡ true → (open_in_range year n k ≡ true) × (overfull year n k ≡ false)
  unfolding open_accepts
  accepts_use e = (and_l (open_in_range year n k) _ e, not-true _ (and_r (open_in_range year n k) _ e))

  -- The refusal that does not look at the list.
  abbrev pub open_refusal : Refusal
  open_refusal = cond (open_in_range year n k) TooManySlots OutOfRange

  module _ (l : List Record) where
    pub gate_refused : open_accepts year n k ≡ false → open_gate year n k l ≡ record { gate = no_gate; list = l; answer = Err open_refusal }
    unfolding open_gate
    gate_refused e =
        by_bool (open_in_range year n k)
        (λ r. by_bool (overfull year n k) (λ o. rw (r, o) refl) (λ o. clash _ (accepts_i r o) e))
        (λ r. rw r refl)

    pub gate_wrong : open_accepts year n k ≡ true → eqb (length l) n ≡ false
        → open_gate year n k l ≡ record { gate = no_gate; list = l; answer = Err WrongLength }
    unfolding open_gate
    gate_wrong e h = let a = accepts_use e in rw (a.0, a.1, h) refl

    pub gate_opened : open_accepts year n k ≡ true → eqb (length l) n ≡ true → open_gate year n k l ≡ opened year n k
    unfolding open_gate
    gate_opened e h = let a = accepts_use e in rw (a.0, a.1, h) refl

  module _ (s : Lent) where
    pub lent_refused : open_accepts year n k ≡ false → open_lent year n k s ≡ refused_lent open_refusal no_gate s
    unfolding open_lent
    lent_refused e =
        by_bool (open_in_range year n k)
        (λ r. by_bool (overfull year n k) (λ o. rw (r, o) refl) (λ o. clash _ (accepts_i r o) e))
        (λ r. rw r refl)

    pub lent_wrong : open_accepts year n k ≡ true → length_is s n ≡ false → open_lent year n k s ≡ refused_lent WrongLength no_gate s
    unfolding open_lent
    lent_wrong e h = let a = accepts_use e in rw (a.0, a.1, h) refl

    pub lent_opened : open_accepts year n k ≡ true → length_is s n ≡ true → open_lent year n k s ≡ on_slices (opened year n k)
    unfolding open_lent
    lent_opened e h = let a = accepts_use e in rw (a.0, a.1, h) refl
