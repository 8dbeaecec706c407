-- What an open leaves of the words and of five slices.
use Prim.Native.Nat.{ℕ}
use mathlib.Core.Path.{ap, refl, sym, ◌∙◌, ◌≡◌}
use mathlib.Core.Bool.{Bool, false, true, true≢false}
use mathlib.Core.List.{List}
use lib.ListN.{length, replicate}
use lib.LanesLaws.{map-replicate}
use Rattle.std.proofs.Common.{Err, Ok, Result}
use Rattle.model.specs.declared.Answer.TheVariants.{Done}
use Rattle.model.specs.declared.Gate.{Gate}
use Rattle.model.specs.declared.Record.{Record}
use Rattle.model.specs.declared.Refusal.{Refusal}
use Rattle.model.specs.declared.Refusal.TheVariants.{OutOfRange, TooManySlots, WrongLength}
use Rattle.model.specs.Calls.{idle_record}
use Rattle.model.specs.Opening.{no_gate, open_in_range, opening}
use Rattle.model.specs.Shown.{shown}
use Rattle.model.specs.Refusals.{Answered}
use Rattle.model.specs.Slices.{Lent, Meets, length_is, lent, lent_of, open_lent}
use Rattle.model.specs.Steps.{overfull}
use Rattle.model.proofs.Logic.{by_bool}
use Rattle.model.proofs.SliceLaws.{all_long}
use Rattle.opening.specs.Opens.{opens}

-- The slices of n idle records.
idle_lent : (n : ℕ) → lent_of (replicate n idle_record) ≡ lent (replicate n 0) (replicate n 0) (replicate n 0) (replicate n 0) (replicate n 0)
idle_lent n =
    λ j. lent (map-replicate (λ (r : Record). r.region) n idle_record j) (map-replicate (λ (r : Record). r.mark) n idle_record j)
    (map-replicate (λ (r : Record). r.value.0) n idle_record j) (map-replicate (λ (r : Record). r.colour.0) n idle_record j)
    (map-replicate (λ (r : Record). r.slot.0) n idle_record j)

-- The parts of what may have failed.
abbrev failed : Result Gate Refusal → Bool
failed (Ok g) = false
failed (Err e) = true

abbrev words : Result Gate Refusal → Gate
words (Ok g) = g
words (Err e) = no_gate

abbrev answer : Result Gate Refusal → Answered
answer (Ok g) = Ok Done
answer (Err e) = Err e

module _ (year n k : ℕ) (rs ms vs cs ss : List ℕ) where
  abbrev s : Lent
  s = lent rs ms vs cs ss

  refused : (e r : Refusal) → ◌≡◌ {A = Result Gate Refusal} (Err e) (Err r) → Meets (record { gate = no_gate; slices = s; answer = Err r }) no_gate (Err e) s
  refused e r q = record { gate_is = refl; answer_is = ap answer q; shown_is = ap (λ (x : Result Gate Refusal). shown (answer x)) q; slices_are = refl }

  pub open_refused : (e : Refusal) → Err e ≡ opens year n k (length_is s n) → Meets (open_lent year n k s) no_gate (Err e) s
  unfolding opens open_lent
  open_refused e q =
      by_bool (open_in_range year n k)
      (λ i.
      by_bool (overfull year n k)
      (λ o. rw (i, o) (refused e TooManySlots (rw (i, o) at q)))
      (λ o.
      by_bool (length_is s n)
      (λ h. let w : ◌≡◌ {A = Result Gate Refusal} (Err e) (Ok (opening year n k)) = rw (i, o, h) at q in absurd (true≢false (ap failed w)))
      (λ h. rw (i, o, h) (refused e WrongLength (rw (i, o, h) at q)))))
      (λ i. rw i (refused e OutOfRange (rw i at q)))

  pub open_accepted : (g : Gate) → Ok g ≡ opens year n k (length_is s n)
      → Meets (open_lent year n k s) g (Ok Done)
      (lent (replicate (length rs) 0) (replicate (length ms) 0) (replicate (length vs) 0) (replicate (length cs) 0) (replicate (length ss) 0))
  unfolding opens open_lent
  open_accepted g q =
      by_bool (open_in_range year n k)
      (λ i.
      by_bool (overfull year n k)
      (λ o. let w : ◌≡◌ {A = Result Gate Refusal} (Ok g) (Err TooManySlots) = rw (i, o) at q in absurd (true≢false (sym (ap failed w))))
      (λ o.
      by_bool (length_is s n)
      (λ h.
      let w : ◌≡◌ {A = Result Gate Refusal} (Ok g) (Ok (opening year n k)) = rw (i, o, h) at q in
      let long = all_long rs ms vs cs ss n h in
      rw (i, o, h) (record {
        gate_is = ap words w;
        answer_is = refl;
        shown_is = refl;
        slices_are =
            (λ j. lent (replicate (long.regions j) 0) (replicate (long.marks j) 0) (replicate (long.values j) 0) (replicate (long.colours j) 0) (replicate (long.slots j) 0))
            ∙ sym (idle_lent n);
      }))
      (λ h. let w : ◌≡◌ {A = Result Gate Refusal} (Ok g) (Err WrongLength) = rw (i, o, h) at q in absurd (true≢false (sym (ap failed w))))))
      (λ i. let w : ◌≡◌ {A = Result Gate Refusal} (Ok g) (Err OutOfRange) = rw i at q in absurd (true≢false (sym (ap failed w))))
