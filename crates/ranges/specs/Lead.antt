-- What the pass reads of the words.
use Rattle.std.specs.Prelude.{ℕ, ◌+◌, ◌<◌, ◌≤◌, ◌≡◌, Bool, not, true, ◌&&◌, List, eqb}
use Rattle.model.specs.declared.Gate.{Gate}
use Rattle.model.specs.declared.Ticket.{Ticket}
use Rattle.ranges.specs.declared.lead.Lead.{Lead}
use Rattle.model.specs.Sound.{ahead_of, behind_of, places}
use Rattle.model.specs.Steps.{Block, InBlock, block_of, col, leads}
use Rattle.ranges.specs.Range.{block_from}

-- "If VALID leads and the colours differ": VALID (v) leads ISSUE (i) in a colour of its own.
abbrev pub leads_anew : Ticket → Ticket → Bool
leads_anew i v = leads v i && not (eqb (col i) (col v))

-- What the pass reads of the words g.
unfoldable pub lead_of : Gate → Lead
lead_of g =
    record {
      first = (block_of g).first;
      size = (block_of g).size;
      k = g.k;
      issue = g.issue;
      valid = g.valid;
      ahead = ahead_of g;
      behind = behind_of g;
      anew = leads_anew g.issue g.valid;
    }

-- The block.
abbrev pub lead_block : Lead → Block
lead_block w = block_from w.first w.size

-- The places after VALID up to ISSUE.
unfoldable pub pending_of : Lead → List Ticket
pending_of w = places (lead_block w) (col w.issue) w.valid w.behind

-- What counting the places between two words asks: the values a and b are of one block of m values, so that each is less than m above the other.
pub record Apart (m a b : ℕ) : Type 0 where
  pub size_most : m ≤ 1025
  pub first_most : a ≤ 1025
  pub second_most : b ≤ 1025
  pub first_near : a < b + m
  pub second_near : b < a + m

-- The bounds of what is read, where the words and the lead are in range.
pub record LeadBounds (w : Lead) : Type 0 where
  pub last_most : w.first + w.size ≤ 1025
  pub k_most : w.k ≤ 64
  pub issue_in : InBlock (lead_block w) w.issue
  pub valid_in_lem : InBlock (lead_block w) w.valid
  pub issue_colour : col w.issue ≤ w.k
  pub valid_colour : col w.valid ≤ w.k
  pub ahead_most : w.ahead ≤ w.k
  pub behind_below : w.behind < w.size
  pub anew_not_behind : w.anew ≡ true → w.behind ≡ 0
