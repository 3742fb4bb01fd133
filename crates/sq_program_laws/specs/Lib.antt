pub mod Homes
pub mod Sizes
pub mod Laws
pub mod Held
pub mod Piped
pub mod Rows
pub mod Facts
pub mod Entry
pub mod LeafCalls
pub mod Written
-- Definitions of crates below, passed on.
pub use Rattle.sq_plan_laws.specs as PlanLaws
pub use Rattle.sq_term_laws.specs as TermLaws
