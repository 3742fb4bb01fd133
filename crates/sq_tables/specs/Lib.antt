pub mod Cases
pub mod Loops
-- Definitions of crates below, passed on.
pub use Rattle.sq_term.specs.Placed
pub use Rattle.sq_term.specs as Term
