-- The numbered gate read as a coloured gate: one block so long that no call reaches its end but for an 11, every colour 0, the count of colour 0 k.
-- What is proved for every block holds of it there.
use mathlib.Core.Path.{refl, ◌≡◌}
use mathlib.Core.List.{List, map, ◌∷◌}
use lib.ListN.{replicate}
use Rattle.model.specs.declared.Gate.{Gate}
use Rattle.model.specs.declared.Record.{Record}
use Rattle.model.specs.Calls.{rec}
use Rattle.model.specs.Steps.{Block, ticket}
use Rattle.numbered.specs.declared.NumberedGate.{NumberedGate}
use Rattle.numbered.specs.declared.NumberedRecord.{NumberedRecord}

-- The endless block: the values of a 64-bit counter.
unfoldable pub endless : Block
endless = record { first = 0; size = 18446744073709551616 }

pub endless_first : endless.first ≡ 0
unfolding endless
endless_first = refl

pub endless_size : endless.size ≡ 18446744073709551616
unfolding endless
endless_size = refl

-- The coloured gate and list of a numbered one. It has no slots: none is free and nobody has one.
abbrev pub wide : NumberedGate → Gate
wide g = record {
  year = 1989;
  n = g.n;
  k = g.k;
  issue = ticket g.issue 0;
  valid = ticket g.valid 0;
  counts = g.k ∷ replicate 64 0;
  free = replicate 64 0;
}

abbrev pub wide_record : NumberedRecord → Record
wide_record r = rec r.region r.mark r.ticket 0 0

abbrev pub wide_list : List NumberedRecord → List Record
wide_list l = map wide_record l
