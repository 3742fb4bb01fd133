-- The texts of arrays that are stored as bytes.
use Rattle.std.specs.Prelude.{ℕ, ◌+◌, Bool, true, false, List, [], ◌∷◌, ◌++◌, get_or, slice_get}
use Rattle.sq_num.specs.Elements.{values_in}
use Rattle.sq_rect.specs.Extents.{product}
use Rattle.sq_ast.specs.declared.program.Param.{Param}
use Rattle.sq_arrays.specs.Arrays.{Wanted}
use Rattle.sq_arrays.specs.Written.{array_text}
use Rattle.sq_ast.specs.Modes.{is_written}
use Rattle.sq_spec.specs.Works.{extents_at}

abbrev pub stored_output : Bool → Wanted → List ℕ → List ℕ
stored_output false want bytes = []
stored_output true want bytes = array_text want (values_in want.elem (product want.extents) bytes)

-- the text of a parameter's array, where it is written
abbrev pub stored_text : Param → List ℕ → List ℕ → List ℕ
stored_text p dims bytes = stored_output (is_written p.mode) (record { name = p.name; elem = p.elem; extents = dims })
    bytes

-- the texts of the parameters from the i-th on
abbrev pub stored_texts : List Param → ℕ → List (List ℕ) → List (List ℕ) → List ℕ
stored_texts [] i extents list = []
stored_texts (p ∷ ps) i extents list = stored_text p (extents_at (slice_get extents i)) (get_or list i [])
    ++ stored_texts ps (i + 1) extents list
