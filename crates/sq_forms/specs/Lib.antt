pub mod Faults
pub mod Steps
pub mod Args
pub mod Tables
pub mod Worlds
pub mod Calls
pub mod Stmts
pub mod Decls
pub mod Resolving
pub mod Forms
-- Definitions of crates below, passed on.
pub use Rattle.sq_mapping.specs.Machfile
pub use Rattle.sq_mapping.specs as Mappings
pub use Rattle.sq_types.specs as Types
