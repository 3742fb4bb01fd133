pub mod LaneTrees
mod LaneClear
mod LaneRoom
pub mod LaneTerms
pub mod LaneGoods
mod TurnTrees
mod TurnTerms
pub mod TurnActions
mod Items
pub mod MixedTerms
mod Sizes
