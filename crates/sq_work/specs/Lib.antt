pub mod Work
pub mod Meaning
pub mod InTurn
pub mod Examples
-- Definitions of crates below, passed on.
pub use Rattle.sq_leaf.specs as Leaf
pub use Rattle.sq_leaf.specs.Types
