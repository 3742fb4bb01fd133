pub mod LawsHold
pub mod KeysHold
pub mod CallsHold
pub mod UsesHold
pub mod FormsHold
pub mod TreeHolds
pub mod EachCall
pub mod Passing
pub mod KeysFound
pub mod AllHold
pub mod RanHold
pub mod Exact
pub mod Shapes
pub mod InsideHold
pub mod ServedHold
pub mod FitHold
pub mod AnswerHold
-- Lemmas of crates below, passed on.
pub use Rattle.sq_forms.proofs as Forms
