pub mod Times
pub mod HoistLaws
pub mod PipeLaws
-- Definitions of crates below, passed on.
pub use Rattle.sq_pipe.specs.Hoist
pub use Rattle.sq_pipe.specs as Pipe
pub use Rattle.sq_draft_laws.specs.Term
pub use Rattle.sq_draft_laws.specs.TermLaws
