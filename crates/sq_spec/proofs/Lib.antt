pub mod OpenedStatement
pub mod InStatements
pub mod StatementLists
pub mod Rows
pub mod TablesMean
pub mod Numbered
pub mod NumberedForms
pub mod WhatRuns
pub mod EntryHolds
-- Lemmas of crates below, passed on.
pub use Rattle.sq_form_laws.proofs as FormLaws
