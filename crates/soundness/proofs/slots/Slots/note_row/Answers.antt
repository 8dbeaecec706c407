-- `soundness::slots::Slots::note_row` notes the places of the free row, up to the first that cannot be noted.
use Rattle.soundness.proofs.MetLaws.{row_done, row_fails, row_next, row_start}
use Rattle.soundness.proofs.slots.Slots.note_row.Goals as goal

pub loop-slot-init : goal.loop-slot-init
loop-slot-init c = λ k f t. row_start t

pub returns-then-not-note : goal.returns-then-not-note
returns-then-not-note c = λ k f t. row_fails (c.loop-slot.invariant k f t) c.loop-slot-test.true c.note.ensures c.if-not-note.true

pub loop-slot-preserved : goal.loop-slot-preserved
loop-slot-preserved c = λ k f t. row_next (c.loop-slot.invariant k f t) c.loop-slot-test.true c.note.ensures c.if-not-note.false

pub returns : goal.returns
returns c = λ k f t. row_done (c.loop-slot.invariant k f t) c.loop-slot-test.false
