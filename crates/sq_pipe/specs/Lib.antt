pub mod Runs
pub mod Candidates
pub mod Greedy
pub mod Sums
pub mod Notes
-- Definitions of crates below, passed on.
pub use Rattle.sq_hoist.specs as Hoist
pub use Rattle.sq_hoist.specs.Chosen
