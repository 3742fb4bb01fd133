-- The levels of forms and of the first buffer.
use Rattle.std.specs.Prelude.{◌≡◌, ℕ, ◌<◌, List, length}
use Rattle.sq_ir.specs.Plans.{of_buffer}
use Rattle.sq_spec.specs.declared.resolved.Resolved.{Resolved}
use Rattle.sq_homes.specs.Chosen.declared.choice.Choice.{Choice}
use Rattle.sq_homes.specs.Drafts.{buffers_of}
use Rattle.sq_draft_laws.specs.Given.{level_at}
use Rattle.sq_draft_laws.specs.Choosing.{Walked, MayBeChosen}

-- Each form has a level of the machine.
abbrev pub LevelsAreThere : Type 0
LevelsAreThere = (r : Resolved) → Walked r → (k : ℕ) → level_at r k < length r.machine.now.levels

-- the entry and the first buffer are of the root's level
pub record BeginsAtRoot (r : Resolved) (choices : List Choice) : Type 0 where
  pub entry : level_at r 0 ≡ 0
  pub buffer : of_buffer (buffers_of r choices) (λ x. x.level) 0 ≡ 0

abbrev pub DraftsBeginAtRoot : Type 0
DraftsBeginAtRoot = (r : Resolved) → Walked r → (choices : List Choice) → MayBeChosen r choices → BeginsAtRoot r choices
