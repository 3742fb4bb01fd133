-- The text that is written of an array.
use Rattle.std.specs.Prelude.{ℕ, codes, zero, suc, ◌<◌, ◌^◌, Bool, true, false, cond, List, [], ◌∷◌, ◌++◌, length, take, drop, ℤ}
use Rattle.std.specs.List.{All}
use Rattle.std.specs.Fmt.{signed_decimal}
use Rattle.sq_rect.specs.Extents.{last_of, rows_of}
use Rattle.sq_arrays.specs.ArrayText.{array_word}
use Rattle.sq_arrays.specs.Arrays.{Wanted}
use Rattle.sq_arrays.specs.Heads.{elem_word, shape_text}
use Rattle.sq_arrays.specs.Window.{AreIn}

-- the rest of a row: one space between two numbers, and LF at its end
abbrev pub row_from : Bool → List ℤ → List ℕ
row_from first [] = codes "\n"
row_from first (v ∷ vs) = cond first [] (codes " ") ++ signed_decimal v ++ row_from false vs

abbrev pub row_text : List ℤ → List ℕ
row_text vs = row_from true vs

-- so many rows of so many numbers, one after the other
abbrev pub rows_text : ℕ → ℕ → List ℤ → List ℕ
rows_text zero last vs = []
rows_text (suc n) last vs = row_text (take last vs) ++ rows_text n last (drop last vs)

-- the four words of the head, one space between two, and LF at its end
abbrev pub head_text : Wanted → List ℕ
head_text w = array_word ++ codes " " ++ w.name ++ codes " " ++ elem_word w.elem ++ codes " " ++ shape_text w.extents ++ codes "\n"

-- an array with these values, in order of coordinates, the last dimension fastest
unfoldable pub array_text : Wanted → List ℤ → List ℕ
array_text w vs = head_text w ++ rows_text (rows_of w.extents) (last_of w.extents) vs

-- the texts of arrays with these values, one after the other
abbrev pub arrays_text : List Wanted → List (List ℤ) → List ℕ
arrays_text [] vss = []
arrays_text (w ∷ ws) [] = []
arrays_text (w ∷ ws) (vs ∷ vss) = array_text w vs ++ arrays_text ws vss

-- its head is four words: the name is one, without a blank, and there is a dimension
pub record HasHead (w : Wanted) : Type 0 where
  pub name_some : 0 < length w.name
  pub name_word : AreIn false w.name
  pub extents_some : 0 < length w.extents
  pub extents_small : All (λ n. n < 2 ^ 32) w.extents
