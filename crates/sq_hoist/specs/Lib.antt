pub mod Loops
pub mod Counts
pub mod Choices
pub mod Notes
-- Definitions of crates below, passed on.
pub use Rattle.sq_chosen.specs as Chosen
pub use Rattle.sq_chosen.specs.SpecLaws
