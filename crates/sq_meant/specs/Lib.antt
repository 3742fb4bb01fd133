pub mod Places
pub mod Ends
pub mod Laws
pub mod Traffic
-- Definitions of crates below, passed on.
pub use Rattle.sq_plan_good.specs as PlanGood
