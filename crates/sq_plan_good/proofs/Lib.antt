pub mod Terms
pub mod Held
pub mod Loops
pub mod Lanes
pub mod Laid
pub mod Plain
pub mod Drafts
pub mod Linked
pub mod Near
pub mod Unique
pub mod Listing
pub mod ListedForms
pub mod Sizes
pub mod Ends
pub mod Running
pub mod Reach
pub mod Agreeing
pub mod Turning
pub mod Fitting
pub mod Bringing
pub mod Tops
pub mod Counting
pub mod Few
pub mod Small
pub mod Good
-- Lemmas of crates below, passed on.
pub use Rattle.sq_draft_laws.proofs as DraftLaws
pub use Rattle.sq_draft_laws.proofs.ProgramLaws
