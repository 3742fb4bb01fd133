pub mod Sums
pub mod Listed
pub mod Needed
pub mod Loops
pub mod Room
pub mod Good
pub mod Parts
pub mod Planned
-- Definitions of crates below, passed on.
pub use Rattle.sq_draft_laws.specs as DraftLaws
pub use Rattle.sq_draft_laws.specs.Homes
pub use Rattle.sq_draft_laws.specs.ProgramLaws
pub use Rattle.sq_term.specs as Term
