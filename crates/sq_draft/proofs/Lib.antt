pub mod MadeMoves
pub mod MadePipes
pub mod Made
-- Lemmas of crates below, passed on.
pub use Rattle.sq_tables.proofs as Tables
