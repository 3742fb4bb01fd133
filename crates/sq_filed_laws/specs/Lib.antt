pub mod Filed
-- Definitions of crates below, passed on.
pub use Rattle.sq_check_laws.specs as CheckLaws
pub use Rattle.sq_layout_laws.specs as LayoutLaws
pub use Rattle.sq_layout_laws.specs.WrittenLaws
