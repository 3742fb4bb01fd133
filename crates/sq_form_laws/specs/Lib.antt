pub mod Laws
pub mod Reached
pub mod Insides
pub mod Served
-- Definitions of crates below, passed on.
pub use Rattle.sq_blocks.specs as Blocks
pub use Rattle.sq_forms.specs as Forms
pub use Rattle.sq_forms.specs.Machfile
pub use Rattle.sq_forms.specs.Mappings
