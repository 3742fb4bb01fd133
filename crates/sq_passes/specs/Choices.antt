-- What the first passes choose: no argument leaves a loop, and no loop overlaps its transfers.
use Rattle.std.specs.Prelude.{Bool, false, List, [], map}
use Rattle.sq_forms.specs.declared.form.Form.{Form}
use Rattle.sq_spec.specs.declared.resolved.Resolved.{Resolved}
use Rattle.sq_homes.specs.Chosen.declared.choice.Choice.{Choice}

abbrev pub staying : (in_place : List Bool) → Choice
staying in_place = record { in_place = in_place; leaves = []; overlaps = false }

-- ---- lowering: nothing is in place

-- whether or not the form has it in place
abbrev pub in_buffer : (in_place : Bool) → Bool
in_buffer in_place = false

-- each argument of the form in a buffer
abbrev pub in_buffers : Form → Choice
in_buffers f = staying (map in_buffer f.in_place)

-- of all forms
abbrev pub all_in_buffers : Resolved → List Choice
all_in_buffers r = map in_buffers r.forms

-- ---- dropping copies: the arguments that a form has in place stay there

-- the arguments of a same-level call that are apart from the others, and none of a lower call
abbrev pub in_place : Form → Choice
in_place f = staying f.in_place

-- of all forms
abbrev pub all_in_place : Resolved → List Choice
all_in_place r = map in_place r.forms
