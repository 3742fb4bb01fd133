-- The bodies, homes and buffers of a draft are as a built term asks.
use Rattle.std.specs.Prelude.{◌≡◌, ℕ, suc, List, length, take}
use Rattle.sq_forms.specs.Steps.{most_uses}
use Rattle.sq_ir.specs.declared.plan.PlanNode.{PlanNode}
use Rattle.sq_ir.specs.Written.{Setting}
use Rattle.sq_spec.specs.declared.resolved.Resolved.{Resolved}
use Rattle.sq_term.specs.Terms.{body_in, homes_in, entry_row}
use Rattle.sq_program_laws.specs.TermLaws.Fits.{Bounds, AreTabled}
use Rattle.sq_program_laws.specs.TermLaws.Roomy.{AreRoomy, EntryFits, RowFits}
use Rattle.sq_homes.specs.Chosen.declared.choice.Choice.{Choice}
use Rattle.sq_homes.specs.Chosen.Forms.{bodies_of}
use Rattle.sq_homes.specs.Drafts.{homes_of, args_of}
use Rattle.sq_draft_laws.specs.Given.{level_at}
use Rattle.sq_draft_laws.specs.Choosing.{Walked, MayBeChosen, setting_of}

-- as many uses as an outermost map may have, and as many children as a node of a machine
abbrev pub limits : Bounds
limits = record { uses = most_uses; children = 64 }

-- Tables have a row for each time that a statement is begun, and buffers that scopes name are there.
abbrev pub DraftsAreTabled : Type 0
DraftsAreTabled = (r : Resolved) → Walked r → (choices : List Choice) → MayBeChosen r choices
    → (last : ℕ) → length r.machine.now.levels ≡ suc last → (nodes : List PlanNode) (offset : ℕ → ℕ)
    → AreTabled (setting_of r choices nodes offset) limits last (body_in (bodies_of r)) (homes_in (homes_of r choices))
    (level_at r)

-- arrays fit into the buffers of their homes, those of the entry too, and it is called with arrays of its own
pub record IsRoomyDraft (r : Resolved) (choices : List Choice) (s : Setting) : Type 0 where
  pub roomy : AreRoomy s (body_in (bodies_of r)) (homes_in (homes_of r choices))
  pub entry : EntryFits s (homes_in (homes_of r choices) 0).params
      (take (length (homes_in (homes_of r choices) 0).params) (body_in (bodies_of r) 0).arrays)
  pub row : RowFits (body_in (bodies_of r)) (homes_in (homes_of r choices))
      (take (length (homes_in (homes_of r choices) 0).params) (body_in (bodies_of r) 0).arrays) (entry_row (args_of r))

-- Arrays fit into the buffers of their homes, and blocks lie inside arrays.
abbrev pub DraftsAreRoomy : Type 0
DraftsAreRoomy = (r : Resolved) → Walked r → (choices : List Choice) → MayBeChosen r choices
    → (nodes : List PlanNode) (offset : ℕ → ℕ) → IsRoomyDraft r choices (setting_of r choices nodes offset)
