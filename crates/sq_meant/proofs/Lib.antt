pub mod Elements
pub mod Fitting
pub mod Holding
pub mod Ends
pub mod Shapes
pub mod Given
mod Traffic
-- Lemmas of crates below, passed on.
pub use Rattle.sq_plan_good.proofs as PlanGood
