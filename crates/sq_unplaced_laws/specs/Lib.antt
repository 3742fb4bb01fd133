pub mod Unplaced
pub mod Laws
-- Definitions of crates below, passed on.
pub use Rattle.sq_written_laws.specs as WrittenLaws
