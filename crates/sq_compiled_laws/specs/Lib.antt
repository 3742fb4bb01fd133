pub mod Compiled
pub mod Refiled
pub mod Buffers
-- Definitions of crates below, passed on.
pub use Rattle.sq_filed_laws.specs as Filed
pub use Rattle.sq_meant.specs as Meant
