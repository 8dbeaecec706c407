-- `soundness::sound::is_sound` answers `sound g` of the lent list: what the pass asks follows from the tests before
-- it.
use native.Mathlib.Omega.{arith}
use Rattle.soundness.proofs.Verdict.{is_read, read_others, room_most}
use Rattle.soundness.proofs.sound.is_sound.Goals as goal

pub bins_are_sound-requires-clause-read : goal.bins_are_sound-requires-clause-read
bins_are_sound-requires-clause-read g c =
    is_read c.args.lent.now.gate.now c.lead_of-lead.result _ _ c.lead_of-lead.ensures c.words_in_range.ensures c.if-not-words_in_range.false c.lead_in_range.ensures c.if-not-lead_in_range.false

pub bins_are_sound-requires-then-from-gt-FEW_OTHERS-clause-read : goal.bins_are_sound-requires-then-from-gt-FEW_OTHERS-clause-read
bins_are_sound-requires-then-from-gt-FEW_OTHERS-clause-read g c =
    is_read c.args.lent.now.gate.now c.lead_of-lead.result _ _ c.lead_of-lead.ensures c.words_in_range.ensures c.if-not-words_in_range.false c.lead_in_range.ensures c.if-not-lead_in_range.false

pub bins_are_sound-requires-2-clause-read : goal.bins_are_sound-requires-2-clause-read
bins_are_sound-requires-2-clause-read g c =
    is_read c.args.lent.now.gate.now c.lead_of-lead.result _ _ c.lead_of-lead.ensures c.words_in_range.ensures c.if-not-words_in_range.false c.lead_in_range.ensures c.if-not-lead_in_range.false

pub bins_are_sound-requires-clause-bins : goal.bins_are_sound-requires-clause-bins
bins_are_sound-requires-clause-bins g c =
    (room_most (is_read c.args.lent.now.gate.now c.lead_of-lead.result _ _ c.lead_of-lead.ensures c.words_in_range.ensures c.if-not-words_in_range.false c.lead_in_range.ensures c.if-not-lead_in_range.false), omega arith)

pub bins_are_sound-requires-clause-room : goal.bins_are_sound-requires-clause-room
bins_are_sound-requires-clause-room g c =
    (read_others (is_read c.args.lent.now.gate.now c.lead_of-lead.result _ _ c.lead_of-lead.ensures c.words_in_range.ensures c.if-not-words_in_range.false c.lead_in_range.ensures c.if-not-lead_in_range.false), omega arith)

pub bins_are_sound-requires-then-from-gt-FEW_OTHERS-clause-room : goal.bins_are_sound-requires-then-from-gt-FEW_OTHERS-clause-room
bins_are_sound-requires-then-from-gt-FEW_OTHERS-clause-room g c =
    (read_others (is_read c.args.lent.now.gate.now c.lead_of-lead.result _ _ c.lead_of-lead.ensures c.words_in_range.ensures c.if-not-words_in_range.false c.lead_in_range.ensures c.if-not-lead_in_range.false), omega arith)
