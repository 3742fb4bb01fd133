-- The words of a head.
use Rattle.std.specs.Prelude.{ℕ, List, ◌++◌, codes, decimal}
use Rattle.std.specs.List.{flat_map}
use Rattle.sq_num.specs.declared.Elem.{Elem}
use Rattle.sq_num.specs.declared.Elem.TheVariants.{Byte, Int, Long}

abbrev pub elem_word : Elem → List ℕ
elem_word Byte = codes "byte"
elem_word Int = codes "int"
elem_word Long = codes "long"

-- as in [64][64]
abbrev pub extent_text : ℕ → List ℕ
extent_text n = codes "[" ++ decimal n ++ codes "]"

abbrev pub shape_text : List ℕ → List ℕ
shape_text extents = flat_map extent_text extents
