pub mod Placed
pub mod Seats
pub mod Trees
pub mod Tables
pub mod Pipes
pub mod SameWorks
pub mod Laws
-- Definitions of crates below, passed on.
pub use Rattle.sq_spec.specs.FormLaws
pub use Rattle.sq_spec.specs as Spec
