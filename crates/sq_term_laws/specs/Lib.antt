pub mod Fits
pub mod Leaves
pub mod Roomy
pub mod Laws
pub mod Rooms
pub mod Orders
pub mod Held
pub mod Callers
pub mod Lowered
pub mod ScopeLaws
pub mod Lowers
pub mod Overlapping
pub mod Begun
pub mod Few
pub mod Programs
pub mod Lower
-- Definitions of crates below, passed on.
pub use Rattle.sq_term.specs as Term
