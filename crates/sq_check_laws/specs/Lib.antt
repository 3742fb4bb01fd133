pub mod Whole
pub mod Flaws
pub mod Touches
pub mod Orders
pub mod First
pub mod PlanLaws
