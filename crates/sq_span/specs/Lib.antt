pub mod Chains
pub mod Hefts
pub mod Weights
pub mod Walks
pub mod Spans
pub mod Chosen
-- Definitions of crates below, passed on.
pub use Rattle.sq_costs.specs as Costs
