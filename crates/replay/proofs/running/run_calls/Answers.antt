-- One call more, and the end of the loop.
use Rattle.std.proofs.Common.{◌≡◌, ◌+◌, ◌++◌, [], ◌∷◌, get_or, length, length-append}
use Rattle.model.specs.Letters.{letter_call}
use Rattle.lists.proofs.SameLaws.{same_on as columns_on}
use Rattle.results.proofs.RoomLaws.{room_use}
use Rattle.results.proofs.SameLaws.{same_on}
use Rattle.replay.proofs.PlaceLaws.{at_end, at_next}
use Rattle.replay.proofs.RunLaws.{call_at, room_next, run_done, run_next}
use Rattle.replay.proofs.running.run_calls.Goals as goal

pub loop-i-preserved : goal.loop-i-preserved
loop-i-preserved c =
    let bs = c.args.calls.now in
    let i = length c.loop-i.yielded in
    let at = c.loop-i.invariant in
    let given = at_next bs c.args.plugins.now i _ c.next.new.self _ at.place c.next.ensures.steps _ c.in-Some.is in
    let x = given.0 in
    let named = call_at bs i c.requires.named x.within in
    let call-is : c.unwrap-call.result ≡ letter_call (get_or bs i 0) = cc in
    let more : length (c.loop-i.yielded ++ ((c.in-Some.i, (c.in-Some.field-0-1-0, c.in-Some.field-0-1-1)) ∷ [])) ≡ i + 1 = length-append _ _ in
    record {
      place = rw more given.1;
      reached =
          rw more (run_next _ _ _ _ _ _ _ _ _ at.reached x.within (room_next _ _ _ _ _ _ _ _ _ at.reached c.requires.room x.within) _ call-is _ _ _
          (rw x.number at c.perform-answer.ensures.meets) _ c.from.ensures _ (rw x.index at c.write.ensures.written));
      same_columns = columns_on _ c.loop-i.list _ at.same_columns c.perform-answer.ensures.same;
      same_slices = same_on _ c.loop-i.results _ at.same_slices c.write.ensures.same_slices;
    }

pub returns-clause-runs : goal.returns-clause-runs
returns-clause-runs c =
    let at = c.loop-i.invariant in
    run_done _ _ _ _ _ _ _ _ _ at.reached (at_end _ _ _ _ c.next.new.self _ at.place c.next.ensures.steps c.in-None.is (room_use _ _ _ c.requires.room).for_plugins) at.place.within
