-- The theory of the numbered gate, from the bottom to the claim.

-- What the worked runs give.
pub mod Table
-- The numbered gate as a coloured one in the endless block: its soundness.
pub mod Endless
pub mod IsSoundNumbered
pub mod WideSound
pub mod WideCalls
-- When a call is answered 11, and soundness kept.
pub mod Eleven
-- The three slices as a list of records.
pub mod SliceLaws
-- The claim.
pub mod Remainders
pub mod NumberedIsGate
