pub mod Names
pub mod Required
pub mod Sound
-- Definitions of crates below, passed on.
pub use Rattle.sq_machfile.specs as Machfile
