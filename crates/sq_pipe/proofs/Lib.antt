pub mod Chosen
pub mod CallsOpened
pub mod Reached
pub mod Marked
pub mod Standing
pub mod Ends
pub mod Gets
-- Lemmas of crates below, passed on.
pub use Rattle.sq_hoist.proofs as Hoist
