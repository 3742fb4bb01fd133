-- What is known of a form by its number, and what is chosen for it.
use Rattle.std.specs.Prelude.{ℕ, false, List, [], map, get_or, slice_get, length, Option, Some, None}
use Rattle.std.specs.List.{range_with_len}
use Rattle.sq_text.specs.Names.{Bytes}
use Rattle.sq_text.specs.declared.spread.SpreadRule.{SpreadRule}
use Rattle.sq_text.specs.declared.spread.SpreadRule.TheVariants.{Cyclic}
use Rattle.sq_spec_laws.specs.Mappings.declared.mapping.Instance.{Instance}
use Rattle.sq_spec_laws.specs.Forms.declared.form.Form.{Form}
use Rattle.sq_spec_laws.specs.Spec.declared.body.FormBody.{FormBody}
use Rattle.sq_spec_laws.specs.Spec.declared.resolved.Resolved.{Resolved}
use Rattle.sq_spec_laws.specs.Spec.Bodies.{body_of}
use Rattle.sq_chosen.specs.declared.choice.Choice.{Choice}

-- what the forms do, by their numbers
abbrev pub bodies_of : Resolved → List FormBody
bodies_of r =
    map (body_of r.typed.now.tasks r.mapping.now.instances r.found.entries) (range_with_len 0 (length r.forms))

abbrev pub instance_by : List Instance → Option Form → Option Instance
instance_by instances None = None
instance_by instances (Some f) = slice_get instances f.instance

abbrev pub instance_at : Resolved → ℕ → Option Instance
instance_at r k = instance_by r.mapping.now.instances (slice_get r.forms k)

abbrev pub level_by : Option Form → ℕ
level_by None = 0
level_by (Some f) = f.level

abbrev pub rule_by : Option Instance → SpreadRule
rule_by None = Cyclic
rule_by (Some x) = x.spread

abbrev pub name_by : Option Instance → Bytes
name_by None = []
name_by (Some x) = x.name

-- ---- what is chosen for it

abbrev pub no_choice : Choice
no_choice = record { in_place = []; leaves = []; overlaps = false }

abbrev pub choice_in : List Choice → ℕ → Choice
choice_in choices k = get_or choices k no_choice
