pub mod Data
pub mod Texts
pub mod Files
-- Definitions of crates below, passed on.
pub use Rattle.sq_report.specs as Report
