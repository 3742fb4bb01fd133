-- The data of the demo as the text of its arrays.
use Rattle.std.specs.Prelude.{ℕ, ◌*◌, List, [], ◌∷◌, ◌++◌, replicate, codes}
use Rattle.sq_num.specs.declared.Elem.TheVariants.{Int}
use Rattle.sq_num.specs.Elements.{values_in}
use Rattle.sq_rect.specs.Extents.{product}
use Rattle.sq_arrays.specs.Arrays.{Wanted}
use Rattle.sq_arrays.specs.Written.{array_text}
use Rattle.sq_report.specs.Demo.{demo_elements, demo_first, demo_second}

-- 128 by 128
abbrev pub matrix_of : List ℕ → Wanted
matrix_of name = record { name = name; elem = Int; extents = 128 ∷ 128 ∷ [] }

-- the text of such an array, by its bytes
unfoldable pub matrix_text : (name bytes : List ℕ) → List ℕ
matrix_text name bytes = array_text (matrix_of name) (values_in Int (product (128 ∷ 128 ∷ [])) bytes)

-- A and B by the number of the demo, and C as zeros
unfoldable pub demo_data : ℕ → List ℕ
demo_data seed =
    matrix_text (codes "A") (demo_first seed) ++ matrix_text (codes "B") (demo_second seed)
    ++ matrix_text (codes "C") (replicate (demo_elements * 4) 0)
