pub mod Readable
pub mod ReadBack
-- Definitions of crates below, passed on.
pub use Rattle.sq_unplaced_laws.specs as UnplacedLaws
pub use Rattle.sq_unplaced_laws.specs.WrittenLaws
