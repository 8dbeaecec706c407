-- `gate::slices::place_answer`: a place changes no word.
use Rattle.std.proofs.Common.{rules, ◌≡◌}
use Rattle.model.specs.Refusals.{Answered}
use Rattle.model.specs.Replies.{answer_of}
use Rattle.gate.proofs.FormLaws.{place_answers}
use Rattle.gate.proofs.slices.place_answer.Goals as goal

pub returns : goal.returns
returns c =
    let same : ◌≡◌ {A = Answered} c.map.result (answer_of c.place.result) = search rules in
    rw same (place_answers _ _ _ _ _ _ c.place.ensures)
