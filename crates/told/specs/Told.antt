-- What a call hands over: the words, with what the answer shows, in one struct.
use Rattle.model.specs.declared.Gate.{Gate}
use Rattle.model.specs.Refusals.{Answered}
use Rattle.answers.specs.Answers.{numbers_of}
use Rattle.told.specs.declared.Told.{Told}

-- The words and the answer, handed over.
abbrev pub told_of : Gate → Answered → Told
told_of g a = record { gate = g; shown = numbers_of a }
