pub mod Terms
pub mod Stands
pub mod Laws
-- Definitions of crates below, passed on.
pub use Rattle.sq_ir.specs as Ir
pub use Rattle.sq_placed.specs as Placed
pub use Rattle.sq_ir.specs.Rect
