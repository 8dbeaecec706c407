-- Why the code meets its contracts, in the order in which to read it.
pub mod PlaceLaws
pub mod RunLaws
pub mod LentLaws
pub mod LedgerLaws
pub mod QueueLaws
pub mod ReplayLaws
pub mod AfterEach
