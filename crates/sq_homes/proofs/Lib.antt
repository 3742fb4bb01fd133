pub mod Wholes
pub mod Numbered
-- Lemmas of crates below, passed on.
pub use Rattle.sq_chosen.proofs.SpecLaws
