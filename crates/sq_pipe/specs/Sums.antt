-- What the code adds up: the bytes of those arrays of a form that have buffers, in the order in which the arrays stand,
-- and the ends of forms beside these.
use Rattle.std.specs.Prelude.{ℕ, ◌||◌, nat_lt, Bool, false, not, List, [], ◌∷◌, length, get_or}
use Rattle.std.specs.List.{filter, range_with_len}
use Rattle.sq_forms.specs.declared.form.Form.{Form}
use Rattle.sq_spec.specs.declared.body.FormBody.{FormBody}
use Rattle.sq_hoist.specs.SpecLaws.Needs.{Ended}
use Rattle.sq_hoist.specs.Chosen.declared.choice.Choice.{Choice}
use Rattle.sq_hoist.specs.Chosen.Arrays.{left_by}
use Rattle.sq_pipe.specs.Greedy.{sizes_of}

-- an array that isn't in place, or leaves a loop
abbrev pub has_buffer : Choice → ℕ → Bool
has_buffer c i = not (get_or c.in_place i false) || nat_lt 0 (left_by c i)

-- each array once
abbrev pub single_bytes : FormBody → Choice → ℕ
single_bytes b c = sizes_of b (filter (has_buffer c) (range_with_len 0 (length b.arrays)))

-- the first forms with their ends
abbrev pub ended_by : List Form → List ℕ → List Ended
ended_by fs [] = []
ended_by [] (e ∷ ends) = []
ended_by (f ∷ fs) (e ∷ ends) = (f, e) ∷ ended_by fs ends
