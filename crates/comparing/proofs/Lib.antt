-- Laws of the pass over two boards, and of alike.
pub mod BoardLaws
pub mod AlikeLaws
