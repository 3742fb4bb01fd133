-- The leaves of a draft.
use Rattle.std.specs.Prelude.{List}
use Rattle.sq_ir.specs.declared.plan.Draft.{Draft}
use Rattle.sq_ir.specs.DraftLeaves.{leaves_of}
use Rattle.sq_spec.specs.declared.resolved.Resolved.{Resolved}
use Rattle.sq_term.specs.Terms.{homes_in}
use Rattle.sq_homes.specs.Chosen.declared.choice.Choice.{Choice}
use Rattle.sq_homes.specs.Drafts.{IsDraftOf, homes_of}
use Rattle.sq_program_laws.specs.Homes.{LeavesStand}
use Rattle.sq_draft_laws.specs.Choosing.{Walked}

-- Each form that is a leaf has its code under the number that its homes give: on bytes the code does what the leaf
-- means, and its arrays are those of the form.
abbrev pub LeavesOfDraftsStand : Type 0
LeavesOfDraftsStand = (r : Resolved) → Walked r → (choices : List Choice) → (d : Draft)
    → IsDraftOf r choices d
    → LeavesStand r.typed.now r.mapping.now r.found.entries (leaves_of d) (homes_in (homes_of r choices))
