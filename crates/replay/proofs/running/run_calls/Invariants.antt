-- The calls that are left end as all of them do, the results of the first i are written, and no other slice is lent for them.
use Rattle.std.proofs.Common.{length}
use Rattle.lists.specs.Columns.{SameColumns, lent_in}
use Rattle.model.specs.Letters.{steps_of}
use Rattle.results.specs.Slices.{SameSlices, lists_of}
use Rattle.replay.proofs.PlaceLaws.{At}
use Rattle.replay.proofs.RunLaws.{Reached}
use Rattle.replay.proofs.running.run_calls.Given as goal

abbrev pub invariant-loop-i : goal.invariant-loop-i
invariant-loop-i l = record {
  place : At l.calls l.plugins (length l.yielded) l.i-iterator;
  reached :
      Reached l.initial.words (lent_in l.initial.list) (steps_of l.calls l.plugins) (lists_of l.initial.results) (length l.yielded) l.words (lent_in l.list)
      (lists_of l.results);
  same_columns : SameColumns l.initial.list l.list;
  same_slices : SameSlices l.initial.results l.results;
}
