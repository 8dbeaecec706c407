-- `soundness::slots::Slots::note` sets a slot's bit.
use Rattle.std.proofs.Common.{arith, rules}
use Rattle.soundness.proofs.MetLaws.{note_new, note_twice}
use Rattle.soundness.proofs.slots.Slots.note.Goals as goal

pub returns-then-noted-self : goal.returns-then-noted-self
returns-then-noted-self c = note_twice c.args.slot.0 c.args.self.now.met (search rules) (omega (arith, c.if-at-ge-MOST_SLOTS.false)) c.if-noted-self.true

pub returns : goal.returns
returns c = note_new c.args.slot.0 c.args.self.now.met (search rules) (omega (arith, c.if-at-ge-MOST_SLOTS.false)) c.if-noted-self.false
