pub mod Shapes
pub mod EachForm
pub mod Sized
pub mod RowsHold
pub mod Whole
pub mod Loops
pub mod Taken
pub mod Rounds
pub mod Carried
pub mod Overlapped
pub mod Nested
pub mod Rows
pub mod Facts
pub mod Follows
pub mod LeafCalls
pub mod Plans
pub mod Written
pub mod Unheld
pub mod Unpiped
pub mod ExampleHeld
pub mod ExamplePiped
-- Lemmas of crates below, passed on.
pub use Rattle.sq_plan_laws.proofs as PlanLaws
pub use Rattle.sq_term_laws.proofs as TermLaws
