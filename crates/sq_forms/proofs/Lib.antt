pub mod Options
pub mod Argued
pub mod OpenedStmt
pub mod Products
pub mod Joins
pub mod Statements
pub mod Scopes
pub mod AllForms
pub mod Tallies
-- Lemmas of crates below, passed on.
pub use Rattle.sq_mapping.proofs as Mappings
pub use Rattle.sq_types.proofs as Types
