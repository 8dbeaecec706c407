-- The relation R between a gate with its list and a plain queue, on which the claim rests: `RelatedIn`, in any block that fits; `Related` is
-- it in the gate's own block.
--
-- It says nothing of the order among the first k of the row: no answer depends on it. That the first k are exactly the plugins whose
-- tickets are valid follows (`first_valid_lem` of RelationLaws).
use Prim.Native.Nat.{ℕ, ◌+◌, ◌<◌, ◌≤◌}
use mathlib.Core.Path.{◌≡◌}
use mathlib.Core.List.{List, map}
use lib.ListN.{drop, get_or, length}
use lib.Dec.{eqb}
use Rattle.model.specs.declared.Gate.{Gate}
use Rattle.model.specs.declared.Record.{Record}
use Rattle.model.specs.declared.Ticket.{Ticket}
use Rattle.model.specs.Calls.{record_of}
use Rattle.model.specs.Lists.{count, one_if}
use Rattle.model.specs.Queue.{Queue}
use Rattle.model.specs.Sound.{ahead_in, behind_in, held, pending_in, ticket_of}
use Rattle.model.specs.Steps.{Block, block_of}
use Rattle.model.proofs.IsSound.{IsSoundIn}

-- The ticket of plugin p.
abbrev pub plugin_ticket : List Record → ℕ → Ticket
plugin_ticket l p = ticket_of (record_of l p)

-- How often p stands in a row.
abbrev pub times : ℕ → List ℕ → ℕ
times p row = count (λ x. eqb x p) row

pub record RelatedIn (B : Block) (g : Gate) (l : List Record) (q : Queue) : Type 0 where
  -- Words and list are sound, the list's length is N, and there are 65 counts.
  pub is_sound : IsSoundIn B g l
  pub len : length l ≡ g.n
  pub counts_len : length g.counts ≡ 65
  -- N, k, every region and every stop mark are equal.
  pub n_is : q.n ≡ g.n
  pub k_is : q.k ≡ g.k
  pub regions_are : q.regions ≡ map (λ r. r.region) l
  pub marks_are : q.marks ≡ map (λ r. r.mark) l
  -- The row holds plugin numbers, each plugin that is not idle once, and no idle one.
  pub row_range : (j : ℕ) → j < length q.row → (1 ≤ get_or q.row j 0) × (get_or q.row j 0 ≤ g.n)
  pub row_times : (p : ℕ) → 1 ≤ p → p ≤ g.n → times p q.row ≡ one_if (held (record_of l p))
  -- Its length is k less the lead: the places after ISSUE up to VALID are still to come, those after VALID up to ISSUE have come.
  pub row_size : length q.row + ahead_in B g ≡ g.k + behind_in B g
  -- The plugin at position k + m of the row holds the m-th place after VALID.
  pub row_tail : map (plugin_ticket l) (drop g.k q.row) ≡ pending_in B g

-- In the gate's own block.
abbrev pub Related : Gate → List Record → Queue → Type 0
Related g l q = RelatedIn (block_of g) g l q
