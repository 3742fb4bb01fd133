pub mod Building
pub mod Piping
-- Definitions of crates below, passed on.
pub use Rattle.sq_tables.specs.Placed
pub use Rattle.sq_tables.specs as Tables
pub use Rattle.sq_tables.specs.Term
