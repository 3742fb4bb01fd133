-- The buffers of a draft, numbered by its forms.
use Rattle.std.specs.Prelude.{List}
use Rattle.sq_spec.specs.declared.resolved.Resolved.{Resolved}
use Rattle.sq_term.specs.Terms.{body_in, homes_in}
use Rattle.sq_program_laws.specs.TermLaws.Callers.{Numbering, AreNumbered}
use Rattle.sq_homes.specs.Chosen.declared.choice.Choice.{Choice}
use Rattle.sq_homes.specs.Chosen.Forms.{bodies_of}
use Rattle.sq_homes.specs.Drafts.{homes_of, buffers_of}
use Rattle.sq_draft_laws.specs.Choosing.{Walked, MayBeChosen}

-- of each buffer its form and its place there, of each form but the entry the one that calls it
pub record HaveNumbers (r : Resolved) (choices : List Choice) : Type 0 where
  pub numbering : Numbering
  pub are : AreNumbered (buffers_of r choices) (body_in (bodies_of r)) (homes_in (homes_of r choices)) numbering

-- The buffers of forms stand in order, and each form but the entry has one caller, which stands before it.
abbrev pub BuffersAreNumbered : Type 0
BuffersAreNumbered = (r : Resolved) → Walked r → (choices : List Choice) → MayBeChosen r choices → HaveNumbers r choices
