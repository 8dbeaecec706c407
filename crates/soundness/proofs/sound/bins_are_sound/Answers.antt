-- `soundness::sound::bins_are_sound`: the bins are empty, and enough.
use Rattle.soundness.proofs.Verdict.{pass_asks}
use Rattle.soundness.proofs.sound.bins_are_sound.Goals as goal

pub list_is_sound-requires-clause-words : goal.list_is_sound-requires-clause-words
list_is_sound-requires-clause-words g c = pass_asks c.requires.read g.row.BINS c.requires.bins.0
