-- The arrays of a draft have buffers of their own.
use Rattle.std.specs.Prelude.{ℕ, List, length}
use Rattle.sq_ir.specs.Written.{Setting}
use Rattle.sq_ir.specs.declared.plan.PlanNode.{PlanNode}
use Rattle.sq_spec.specs.declared.resolved.Resolved.{Resolved}
use Rattle.sq_placed.specs.Placed.{Placed}
use Rattle.sq_placed.specs.Tables.{entry_placed}
use Rattle.sq_term.specs.Terms.{body_in, homes_in}
use Rattle.sq_program_laws.specs.PlanLaws.Buffers.{Owns}
use Rattle.sq_program_laws.specs.PlanLaws.Rooms.{EntryOwns}
use Rattle.sq_program_laws.specs.Entry.{entry_shapes}
use Rattle.sq_homes.specs.Chosen.declared.choice.Choice.{Choice}
use Rattle.sq_homes.specs.Chosen.Forms.{bodies_of}
use Rattle.sq_homes.specs.Drafts.{homes_of, args_of, entry_of}
use Rattle.sq_draft_laws.specs.Choosing.{Walked, MayBeChosen, setting_of}

-- what is placed for a draft: its entry, called with whole arrays
abbrev pub draft_placed : Resolved → List Choice → Placed
draft_placed r choices =
    entry_placed (body_in (bodies_of r)) (homes_in (homes_of r choices)) (length (bodies_of r)) (args_of r)

pub record OwnsItsBuffers (r : Resolved) (choices : List Choice) (s : Setting) : Type 0 where
  pub owns : Owns s (draft_placed r choices)
  pub entry : EntryOwns s (entry_shapes (body_in (bodies_of r)) (args_of r)) (entry_of r choices)
      (draft_placed r choices)

-- Each array of a draft has a buffer of its own that it fits into, or stands in its caller's array, and the entry's
-- arrays have theirs; an argument that leaves loops has its buffer round the outermost of them, and in a loop that
-- overlaps its transfers each other one has two.
abbrev pub DraftsOwn : Type 0
DraftsOwn = (r : Resolved) → Walked r → (choices : List Choice) → MayBeChosen r choices
    → (nodes : List PlanNode) (offset : ℕ → ℕ) → OwnsItsBuffers r choices (setting_of r choices nodes offset)
