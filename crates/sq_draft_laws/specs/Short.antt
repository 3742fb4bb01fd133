-- How many maps stand round the forms of a program, and how many arrays its leaves have.
use Rattle.std.specs.Prelude.{ℕ, Option, Some, None, slice_get}
use Rattle.sq_forms.specs.declared.form.Found.{Found}
use Rattle.sq_forms.specs.Steps.{Key}
use Rattle.sq_spec.specs.declared.resolved.Resolved.{Resolved}
use Rattle.sq_term.specs.Terms.{body_in}
use Rattle.sq_homes.specs.Chosen.Forms.{bodies_of}
use Rattle.sq_draft_laws.specs.Choosing.{Walked}
use Rattle.sq_draft_laws.specs.Paths.{PathsFit, LeavesAreSmall}

abbrev pub round_by : Option (Key × Found) → ℕ
round_by None = 0
round_by (Some form) = form.1.maps

-- the maps round the calls by which a form is reached, from the entry down
abbrev pub round_of : Resolved → ℕ → ℕ
round_of r k = round_by (slice_get r.found.entries k)

-- Round each form stand the maps of its caller and those round its call, at most 64. No leaf has more than 32 arrays.
pub record AreShort (r : Resolved) : Type 0 where
  pub paths : PathsFit (body_in (bodies_of r)) (round_of r)
  pub small : LeavesAreSmall (body_in (bodies_of r))

-- Of every program that was resolved.
abbrev pub LeavesAreShort : Type 0
LeavesAreShort = (r : Resolved) → Walked r → AreShort r
