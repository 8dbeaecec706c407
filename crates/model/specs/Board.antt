-- A.6: what alike is worth. Gates that are alike have equal boards and run alike: statements about all sound gates and lists, proved in
-- proofs/Board.antt and proofs/AlikeRuns.antt.
--
-- Read before it: Calls (`alike_in`, `alike`, `after_in`), Claim (`gate_trace_in`), and what they cite.
use Rattle.std.specs.Prelude.{ℕ, Ok, ◌≡◌, Bool, true, cond, ◌&&◌, List, map, get_or, length, eqb}
use Rattle.model.specs.declared.Gate.{Gate}
use Rattle.model.specs.declared.Record.{Record}
use Rattle.model.specs.Calls.{Step, after, after_in, idle_record}
use Rattle.model.specs.Alike.{alike, alike_in}
use Rattle.model.specs.Claim.{gate_trace, gate_trace_in}
use Rattle.model.specs.Lists.{all_below}
use Rattle.model.specs.Sound.{idle, sound, sound_in, ticket_of}
use Rattle.model.specs.Steps.{Block, Fits, returns_in}

-- Where a plugin stands: its region, its stop mark, and the number of returns until its ticket is valid, 0 if it holds none.
pub record Standing : Type 0 where
  pub region : ℕ
  pub mark : ℕ
  pub returns : ℕ

-- The board: N, k, and where each plugin stands.
pub record Board : Type 0 where
  pub n : ℕ
  pub k : ℕ
  pub plugins : List Standing

abbrev pub standing_in : Block → Gate → Record → Standing
standing_in b g r = record { region = r.region; mark = r.mark; returns = cond (idle r) 0 (returns_in b g (ticket_of r)) }

abbrev pub board_in : Block → Gate → List Record → Board
board_in b g l = record { n = g.n; k = g.k; plugins = map (standing_in b g) l }

-- Equal boards as a test that looks at each plugin once, and at no two together.
unfoldable pub same_standing : Block → Gate → Record → Block → Gate → Record → Bool
same_standing b g r c h s =
    eqb r.region s.region && eqb r.mark s.mark && eqb (standing_in b g r).returns (standing_in c h s).returns

unfoldable pub same_board : Block → Gate → List Record → Block → Gate → List Record → Bool
same_board b g l c h m =
    eqb g.n h.n && eqb g.k h.k && all_below (λ i. same_standing b g (get_or l i idle_record) c h (get_or m i idle_record)) g.n

-- Words and a list of N records whose tickets are sound, in a block that fits.
pub record SoundGate (b : Block) (g : Gate) (l : List Record) : Type 0 where
  pub fits : Fits b g.n g.k
  pub is_sound : sound_in b g l ≡ true
  pub list_len : length l ≡ g.n

-- Alike is: equal boards.
abbrev pub AlikeIsBoard : Type 0
AlikeIsBoard =
    (b : Block) (g : Gate) (l : List Record) (c : Block) (h : Gate) (m : List Record) → SoundGate b g l → SoundGate c h m
    → (alike_in b g l c h m ≡ true → board_in b g l ≡ board_in c h m) × (board_in b g l ≡ board_in c h m → alike_in b g l c h m ≡ true)

-- So one pass over the plugins decides it.
abbrev pub AlikeInOnePass : Type 0
AlikeInOnePass =
    (b : Block) (g : Gate) (l : List Record) (c : Block) (h : Gate) (m : List Record) → SoundGate b g l → SoundGate c h m
    → alike_in b g l c h m ≡ same_board b g l c h m

-- The call alike is an equivalence on sound gates.
pub record AlikeIsEquivalence : Type 0 where
  pub reflexive : (g : Gate) (l : List Record) → length l ≡ g.n → sound g l ≡ true → alike g l g l ≡ Ok true
  pub symmetric : (g : Gate) (l : List Record) (h : Gate) (m : List Record) → alike g l h m ≡ Ok true → alike h m g l ≡ Ok true
  pub transitive : (g : Gate) (l : List Record) (h : Gate) (m : List Record) (f : Gate) (o : List Record)
      → alike g l h m ≡ Ok true → alike h m f o ≡ Ok true → alike g l f o ≡ Ok true

-- "alike gates, given the same later calls from take to wake, give the same numbers, yes or no and places, and are alike afterwards": a list
-- of calls s gives equal entries, call by call, and leaves alike gates. The front of a list of calls is one too, so they are alike after each.
pub record SameRun (b : Block) (g : Gate) (l : List Record) (c : Block) (h : Gate) (m : List Record) (s : List Step) : Type 0 where
  pub same_trace : gate_trace_in b g l s ≡ gate_trace_in c h m s
  pub still_alike : alike_in b (after_in b g l s).gate (after_in b g l s).list c (after_in c h m s).gate (after_in c h m s).list ≡ true

-- Every list of calls, any plugin numbers, refused calls included; the two gates may have different blocks. That there are 65 counts, and 64
-- places for free slots, is what the words' type says.
abbrev pub AlikeRunsSame : Type 0
AlikeRunsSame =
    (b : Block) (g : Gate) (l : List Record) (c : Block) (h : Gate) (m : List Record) → SoundGate b g l → SoundGate c h m
    → length g.counts ≡ 65 → length h.counts ≡ 65 → alike_in b g l c h m ≡ true → (s : List Step) → SameRun b g l c h m s

-- The same of the call alike: what its yes is worth.
pub record SameOwnRun (g : Gate) (l : List Record) (h : Gate) (m : List Record) (s : List Step) : Type 0 where
  pub same_trace : gate_trace g l s ≡ gate_trace h m s
  pub still_alike : alike (after g l s).gate (after g l s).list (after h m s).gate (after h m s).list ≡ Ok true

abbrev pub AlikeGatesRunSame : Type 0
AlikeGatesRunSame =
    (g : Gate) (l : List Record) (h : Gate) (m : List Record) → length g.counts ≡ 65 → length h.counts ≡ 65
    → length g.free ≡ 64 → length h.free ≡ 64 → alike g l h m ≡ Ok true → (s : List Step) → SameOwnRun g l h m s
