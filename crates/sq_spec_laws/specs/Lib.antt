pub mod Needs
pub mod Named
pub mod Typed
pub mod Filled
pub mod TableRows
pub mod Summing
pub mod ReachedFacts
pub mod Ones
pub mod Fuel
-- Definitions of crates below, passed on.
pub use Rattle.sq_forms.specs as Forms
pub use Rattle.sq_forms.specs.Mappings
pub use Rattle.sq_spec.specs as Spec
