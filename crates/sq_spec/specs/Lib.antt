pub mod Statements
pub mod Spreads
pub mod Works
pub mod StatementsWork
pub mod Bodies
pub mod Walked
pub mod Entry
pub mod Numbered
-- Definitions of crates below, passed on.
pub use Rattle.sq_form_laws.specs.Blocks
pub use Rattle.sq_form_laws.specs as FormLaws
pub use Rattle.sq_form_laws.specs.Forms
pub use Rattle.sq_form_laws.specs.Mappings
pub use Rattle.sq_work.specs as Work
