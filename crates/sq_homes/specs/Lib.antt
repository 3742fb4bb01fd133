pub mod Numbering
pub mod Drafts
pub mod Begun
pub mod Laws
-- Definitions of crates below, passed on.
pub use Rattle.sq_chosen.specs as Chosen
pub use Rattle.sq_draft.specs.Placed
pub use Rattle.sq_chosen.specs.SpecLaws
