-- Lemmas of crates below, passed on.
pub use Rattle.sq_spec_laws.proofs as SpecLaws
