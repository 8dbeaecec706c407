-- The theory, from the bottom to the claim.

-- What the worked runs and comparisons give.
pub mod Table
pub mod Comparisons
-- Truth values, counting, the scan for colours.
pub mod Logic
pub mod Counting
pub mod Colours
-- Blocks and moves, for any first value and any size.
pub mod Blocks
pub mod Moves
-- A sound gate: that each year's block fits, its clauses as facts, what follows, and that every accepted call keeps it.
pub mod RecordTests
pub mod Year1979
pub mod Year1989
pub mod IsSound
pub mod SoundLaws
pub mod RuleLaws
pub mod Validity
pub mod Taking
pub mod Leaving
pub mod Keeping
pub mod HandingBack
-- The relation to the queue, places, one step, the claim and the auditor's answers.
pub mod Relation
pub mod Rows
pub mod Returns
pub mod RelationLaws
pub mod OneStep
pub mod Opening
pub mod Opens
pub mod SlotLaws
pub mod SlotStep
pub mod Ledger
pub mod GateIsQueue
pub mod SomeQueue
pub mod Rising
pub mod Audit
-- Alike is equal boards, and alike gates run alike.
pub mod Ranks
pub mod AlikeFacts
pub mod Board
pub mod AlikeRuns
-- A turn after exactly so many returns.
pub mod QueueTurn
pub mod Turn
-- The list as four slices.
pub mod SliceLaws
