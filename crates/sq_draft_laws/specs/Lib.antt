pub mod Given
pub mod Choosing
pub mod Programs
pub mod HomesFit
pub mod Levels
pub mod Drafts
pub mod Numbers
pub mod Owned
pub mod Lanes
pub mod Placeable
pub mod Memories
pub mod Leaves
pub mod Opened
pub mod Short
pub mod Scope
pub mod Paths
pub mod Laws
pub mod AtLevels
-- Definitions of crates below, passed on.
pub use Rattle.sq_homes.specs as Homes
pub use Rattle.sq_program_laws.specs.PlanLaws
pub use Rattle.sq_program_laws.specs as ProgramLaws
pub use Rattle.sq_term.specs as Term
pub use Rattle.sq_program_laws.specs.TermLaws
