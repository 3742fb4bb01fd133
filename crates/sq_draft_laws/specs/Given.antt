-- What the homes and the buffers of a draft are, form by form.
use Rattle.std.specs.Prelude.{◌≡◌, ℕ, ◌+◌, ◌<◌, List, length, map, slice_get, Some}
use Rattle.sq_ir.specs.Written.{Setting}
use Rattle.sq_ir.specs.Plans.{of_buffer}
use Rattle.sq_spec.specs.declared.body.FormBody.{FormBody}
use Rattle.sq_spec.specs.declared.resolved.Resolved.{Resolved}
use Rattle.sq_term.specs.Terms.{body_in, homes_in}
use Rattle.sq_term.specs.Stands.{AreLevel, AreLeveled, calls_of}
use Rattle.sq_homes.specs.Chosen.declared.choice.Choice.{Choice}
use Rattle.sq_homes.specs.Chosen.Arrays.{standing}
use Rattle.sq_homes.specs.Numbering.{form_homes}
use Rattle.sq_homes.specs.Chosen.Forms.{bodies_of, choice_in, instance_at, rule_by, level_by}
use Rattle.sq_homes.specs.Drafts.{homes_of, buffers_of, buffer_at}

-- Of a form with this body: its homes are numbered from its first buffer on, and there in the list of buffers stand
-- those of its arrays, in their order.
pub record FormStands (r : Resolved) (choices : List Choice) (k : ℕ) (b : FormBody) : Type 0 where
  pub first : ℕ
  pub code : ℕ
  pub homes : slice_get (homes_of r choices) k
      ≡ Some (form_homes first (rule_by (instance_at r k)) code b (choice_in choices k))
  pub buffers : (i : ℕ) → i < length (standing b (choice_in choices k))
      → slice_get (buffers_of r choices) (first + i)
      ≡ slice_get (map (buffer_at r k b) (standing b (choice_in choices k))) i

abbrev pub FormsStand : Type 0
FormsStand = (r : Resolved) (choices : List Choice) (k : ℕ) (b : FormBody) → slice_get (bodies_of r) k ≡ Some b
    → FormStands r choices k b

-- the level of a form
abbrev pub level_at : Resolved → ℕ → ℕ
level_at r k = level_by (slice_get r.forms k)

-- the calls of each form go to its own level or the next one, as they say
pub record CallsDescend (r : Resolved) : Type 0 where
  pub each : (k : ℕ) → AreLevel (level_at r) (level_at r k) (calls_of (body_in (bodies_of r) k).body)

abbrev pub ProgramsDescend : Type 0
ProgramsDescend = (r : Resolved) → CallsDescend r

-- The buffers of each form have its level.
abbrev pub HomesAreLeveled : Type 0
HomesAreLeveled = (r : Resolved) (choices : List Choice) (s : Setting)
    → ((b : ℕ) → s.level b ≡ of_buffer (buffers_of r choices) (λ x. x.level) b)
    → AreLeveled s (body_in (bodies_of r)) (homes_in (homes_of r choices)) (level_at r)
