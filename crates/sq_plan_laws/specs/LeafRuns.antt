-- What sq_leaf has of a leaf's code: it runs over every placement that is allowed, and does there what the leaf means.
use Rattle.std.specs.Prelude.{◌≡◌, ℕ, ◌*◌, ◌+◌, ◌<◌, ◌≤◌, Bool, true, List, [], ◌∷◌, length, map, slice_get, Some}
use Rattle.sq_num.specs.Elements.{width}
use Rattle.sq_rect.specs.declared.view.View.{View}
use Rattle.sq_rect.specs.Extents.{product, row_major}
use Rattle.sq_leaf.specs.declared.shape.Shape.{Shape}
use Rattle.sq_leaf.specs.Source.{Arrays}
use Rattle.sq_leaf.specs.Leaf.{Leaf, written_of, leaf_value}
use Rattle.sq_leaf.specs.Running.{Ran}
use Rattle.sq_leaf.specs.Views.{CanRun, Shows, Agrees, shape_of}
use Rattle.sq_leaf.specs.Line.{are_in_line}

-- one run from these bytes, which agrees with the meaning on all arrays that the views show
pub record RunsAsMeant (leaf : Leaf) (vs : List View) (old : List ℕ) : Type 0 where
  pub ran : Ran
  pub agrees : (a : Arrays) → Shows vs old a
      → Agrees vs (written_of leaf.variant) old ran (leaf_value leaf (map shape_of vs) a)

pub record IsCompiled (leaf : Leaf) : Type 0 where
  pub runs : (vs : List View) (old : List ℕ) → CanRun (length old) vs (written_of leaf.variant)
      → RunsAsMeant leaf vs old

-- arrays in line can be run over
abbrev pub LinesCanRun : Type 0
LinesCanRun = (size : ℕ) (vs : List View) (written : List Bool) → are_in_line 0 size vs ≡ true → CanRun size vs written

-- arrays within the limits
pub record AreSmall (shapes : List Shape) : Type 0 where
  pub some : (n : ℕ) (sh : Shape) → slice_get shapes n ≡ Some sh → 0 < product sh.extents
  pub few : (n : ℕ) (sh : Shape) → slice_get shapes n ≡ Some sh → product sh.extents < 4294967296
  pub dims : (n : ℕ) (sh : Shape) → slice_get shapes n ≡ Some sh → length sh.extents ≤ 3

abbrev pub size_of : Shape → ℕ
size_of s = width s.elem * product s.extents

abbrev pub total : List Shape → ℕ
total [] = 0
total (s ∷ shapes) = size_of s + total shapes

abbrev pub view_at : ℕ → Shape → View
view_at at s = record { at = at; elem = s.elem; extents = s.extents; strides = row_major s.extents }

-- arrays one behind the other, from a byte on
abbrev pub lined : ℕ → List Shape → List View
lined at [] = []
lined at (s ∷ shapes) = view_at at s ∷ lined (at + size_of s) shapes
