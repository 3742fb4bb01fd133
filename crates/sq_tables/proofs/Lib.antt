pub mod Lists
pub mod InStatements
pub mod Chains
pub mod Firsts
-- Lemmas of crates below, passed on.
pub use Rattle.sq_term.proofs as Term
