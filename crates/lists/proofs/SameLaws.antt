-- Slices that stay the same, one write after another.
use Rattle.std.proofs.Common.{◌∙◌}
use Rattle.lists.specs.declared.columns_mut.ColumnsMut.{ColumnsMut}
use Rattle.lists.specs.Columns.{SameColumns}

pub same_on : (c d e : ColumnsMut) → SameColumns c d → SameColumns d e → SameColumns c e
same_on c d e a b = record {
  regions = b.regions ∙ a.regions;
  marks = b.marks ∙ a.marks;
  values = b.values ∙ a.values;
  colours = b.colours ∙ a.colours;
  slots = b.slots ∙ a.slots;
}
