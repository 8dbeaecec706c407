-- `soundness::slots::Slots::note_row` notes the places of the free row. The loop's invariant is `RowPassed`: those passed have slots from 1 to k,
-- and each of these has been met once more, none twice.
use Prim.Native.Nat.{ℕ}
use Rattle.soundness.specs.Slots.{Table}
use Rattle.soundness.proofs.MetLaws.{RowPassed}
use Rattle.soundness.proofs.slots.Slots.note_row.Given as goal

abbrev pub invariant-loop-slot : goal.invariant-loop-slot
invariant-loop-slot l = (k : ℕ) → (f : ℕ → ℕ) → Table k l.initial.self.met f → RowPassed k f l.row l.slot-index l.self.met
