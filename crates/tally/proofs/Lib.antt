-- The laws that the functions' proofs cite, here and in the crate `soundness`.
mod PlaceLaws
pub mod RecordLaws
pub mod BinLaws
pub mod CountLaws
pub mod FoldLaws
