-- The arrays of a form that have buffers, in the order in which these stand: what leaves loops, the outermost loop's
-- first; the other arguments that aren't in place; these once more where the loop of the call overlaps its transfers; the
-- locals.
use Rattle.std.specs.Prelude.{ℕ, zero, suc, ◌-◌, ◌==◌, max, Bool, false, not, ◌&&◌, List, [], ◌∷◌, ◌++◌, length, get_or}
use Rattle.std.specs.Prelude.{if◌then◌else◌}
use Rattle.std.specs.List.{filter, range_with_len}
use Rattle.sq_ir.specs.Leaf.declared.shape.Shape.{Shape}
use Rattle.sq_spec_laws.specs.Spec.declared.body.FormBody.{FormBody}
use Rattle.sq_spec_laws.specs.Needs.{size_of}
use Rattle.sq_placed.specs.Tables.{no_shape}
use Rattle.sq_chosen.specs.declared.choice.Choice.{Choice}

abbrev pub deepest : List ℕ → ℕ
deepest [] = 0
deepest (n ∷ ns) = max n (deepest ns)

-- how many loops the i-th parameter leaves
abbrev pub left_by : Choice → ℕ → ℕ
left_by c i = get_or c.leaves i 0

abbrev pub is_moved : Choice → ℕ → Bool
is_moved c i = not (get_or c.in_place i false) && left_by c i == 0

abbrev pub params_where : (ℕ → Bool) → Choice → List ℕ
params_where p c = filter p (range_with_len 0 (length c.in_place))

-- those that leave so many loops or fewer, the outermost loop first
abbrev pub hoisted_from : ℕ → Choice → List ℕ
hoisted_from zero c = []
hoisted_from (suc d) c = params_where (λ i. left_by c i == suc d) c ++ hoisted_from d c

abbrev pub hoisted : Choice → List ℕ
hoisted c = hoisted_from (deepest c.leaves) c

-- the others that aren't in place
abbrev pub others : Choice → List ℕ
others c = params_where (is_moved c) c

-- in a loop that overlaps its transfers the others stand once more
abbrev pub again : Choice → List ℕ
again c = if c.overlaps then others c else []

-- how many locals a form has, behind its parameters
abbrev pub locals_count : List Shape → Choice → ℕ
locals_count shapes c = length shapes - length c.in_place

-- the arrays of a form in the order of their buffers; shapes: those of its arrays
abbrev pub standing_of : List Shape → Choice → List ℕ
standing_of shapes c =
    hoisted c ++ (others c ++ (again c ++ range_with_len (length c.in_place) (locals_count shapes c)))

abbrev pub standing : FormBody → Choice → List ℕ
standing b c = standing_of b.arrays c

-- ---- sizes

abbrev pub shape_size : Shape → ℕ
shape_size shape = size_of shape.elem shape.extents

abbrev pub array_size : FormBody → ℕ → ℕ
array_size b i = shape_size (get_or b.arrays i no_shape)
