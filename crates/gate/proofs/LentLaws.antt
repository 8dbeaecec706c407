-- A decision on five slices.
use Prim.Native.Nat.{ℕ, ◌<◌}
use mathlib.Core.Path.{ap, refl, sym, ◌∙◌, ◌≡◌}
use mathlib.Core.Bool.{true}
use mathlib.Core.List.{List}
use native.Mathlib.Omega.{arith}
use lib.ListN.{length, set}
use Rattle.std.proofs.Common.{Err, Ok}
use Rattle.gate.specs.Decides.{Decides, DecidesLent, Decision, decided}
use Rattle.lists.specs.Columns.{IsWithin, set_lent}
use Rattle.model.specs.declared.Call.{Call}
use Rattle.model.specs.declared.Gate.{Gate}
use Rattle.model.specs.declared.Record.{Record}
use Rattle.model.specs.declared.Refusal.TheVariants.{WrongLength}
use Rattle.model.specs.Calls.{Outcome, call}
use Rattle.model.specs.Shown.{shown}
use Rattle.model.specs.Refusals.{Answered}
use Rattle.model.specs.Slices.{Lent, Meets, call_lent, length_is, lent, lent_of, on_slices, records}
use Rattle.model.proofs.Logic.{by_bool}
use Rattle.model.proofs.SliceLaws.{Long, all_long, colours_of, length_records, lent_records, lent_set, marks_of, regions_of, slots_of, values_of}

-- What a decision answers.
abbrev answered : Decision → Answered
answered (Ok (at, e)) = Ok e.answer
answered (Err r) = Err r

module _ (rs ms vs cs ss : List ℕ) where
  abbrev s : Lent
  s = lent rs ms vs cs ss

  abbrev l : List Record
  l = records rs ms vs cs ss

  module _ (n : ℕ) (h : length_is s n ≡ true) where
    w : Long rs ms vs cs ss n
    w = all_long rs ms vs cs ss n h

    slices_are : s ≡ lent_of l
    slices_are = sym (lent_records rs ms vs cs ss (w.marks ∙ sym w.regions) (w.values ∙ sym w.regions) (w.colours ∙ sym w.regions) (w.slots ∙ sym w.regions))

    -- A record written in the list is written in the slices.
    written : (at : ℕ) (r : Record) → set_lent s at r ≡ lent_of (set l at r)
    written at r =
        sym (lent_set l at r
        ∙ (λ j.
        lent (set (regions_of rs ms vs cs ss j) at r.region) (set (marks_of rs ms vs cs ss (w.marks ∙ sym w.regions) j) at r.mark)
        (set (values_of rs ms vs cs ss (w.values ∙ sym w.regions) j) at r.value.0) (set (colours_of rs ms vs cs ss (w.colours ∙ sym w.regions) j) at r.colour.0)
        (set (slots_of rs ms vs cs ss (w.slots ∙ sym w.regions) j) at r.slot.0)))

    within_all : (at : ℕ) → at < length l → IsWithin at s
    within_all at b =
        let i : at < length rs = omega (arith, b, length_records rs ms vs cs ss) in
        record {
          in_regions = i;
          in_marks = omega (arith, i, w.marks, w.regions);
          in_values = omega (arith, i, w.values, w.regions);
          in_colours = omega (arith, i, w.colours, w.regions);
          in_slots = omega (arith, i, w.slots, w.regions);
        }

  met : (o : Outcome) (g : Gate) (a : Answered) (t : Lent) (m : List Record) → record { gate = g; list = m; answer = a } ≡ o → t ≡ lent_of m → Meets (on_slices o) g a t
  met o g a t m e f = record {
    gate_is = ap (λ (x : Outcome). x.gate) e;
    answer_is = ap (λ (x : Outcome). x.answer) e;
    shown_is = ap (λ (x : Outcome). shown x.answer) e;
    slices_are = f ∙ ap (λ (x : Outcome). lent_of x.list) e;
  }

  -- What `decide` promises of the records is what it promises of the slices.
  pub decides_lent : (c : Call) (g : Gate) (p : ℕ) (g' : Gate) (d : Decision) → Decides (length_is s g.n) c g l p g' d → DecidesLent c g s p g' d
  unfolding call_lent
  decides_lent c g p g' (Ok (at, e)) d =
      let h = d.within.0 in (
        within_all g.n h at d.within.1,
        rw h (met (call c g l p) g' (Ok e.answer) (set_lent s at e.record) (set l at e.record) (d.as_called h) (written g.n h at e.record)),
      )
  decides_lent c g p g' (Err r) d = (
    d.refused,
    by_bool (length_is s g.n)
        (λ h. rw h (met (call c g l p) g (Err r) s l (ap (λ (x : Gate). decided x l (Err r)) (sym d.refused) ∙ d.as_called h) (slices_are g.n h)))
        (λ h.
        let e : ◌≡◌ {A = Answered} (Err r) (Err WrongLength) = ap answered (d.wrong_length h) in
        rw h (record { gate_is = refl; answer_is = e; shown_is = ap shown e; slices_are = refl })),
  )
