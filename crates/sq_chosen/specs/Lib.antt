pub mod Arrays
pub mod Forms
-- Definitions of crates below, passed on.
pub use Rattle.sq_spec_laws.specs as SpecLaws
