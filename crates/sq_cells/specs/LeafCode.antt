-- The leaves of a plan as leaf code over cells.
use Rattle.std.specs.Prelude.{◌≡◌, ℕ, ◌<◌, Bool, true, false, List, [], ◌∷◌, length, get_or, slice_get, Some, reverse}
use Rattle.sq_ir.specs.Rect.declared.view.View.{View}
use Rattle.sq_ir.specs.Events as events
use Rattle.sq_ir.specs.Events.{Leaves, Shape, shape_of, places, Finishes, Traps}
use Rattle.sq_cells.specs.Cells.{Spot, spot}
use Rattle.sq_cells.specs.Tree as cells
use Rattle.sq_cells.specs.Tree.{Cause, Code, Gives, Fails}

-- arrays of these shapes, the bytes of each being given last one first
abbrev pub arrays : List Shape → List (List ℕ) → List events.Array
arrays [] vals = []
arrays (s ∷ ss) [] = []
arrays (s ∷ ss) (v ∷ vs) = record { shape = s; bytes = reverse v } ∷ arrays ss vs

-- bytes laid over others: of 1, 2 over 7, 8, 9 it is 1, 2, 9
abbrev pub over : (new old : List ℕ) → List ℕ
over [] old = old
over (b ∷ bs) [] = []
over (b ∷ bs) (x ∷ xs) = b ∷ over bs xs

-- all arrays at the end, where the written ones got these bytes
abbrev pub spread : List Bool → List (List ℕ) → List events.Array → List (List ℕ)
spread [] outs xs = []
spread (w ∷ ws) outs [] = []
spread (true ∷ ws) [] (a ∷ xs) = a.bytes ∷ spread ws [] xs
spread (true ∷ ws) (o ∷ outs) (a ∷ xs) = over o a.bytes ∷ spread ws outs xs
spread (false ∷ ws) outs (a ∷ xs) = a.bytes ∷ spread ws outs xs

abbrev pub given : List Bool → List events.Array → events.LeafEnd Cause → cells.LeafEnd
given ws xs (Finishes outs) = Gives (spread ws outs xs)
given ws xs (Traps cause) = Fails cause

-- what the leaf of a number does with arrays of these shapes; the lists that leaf code over cells is handed have the
-- last item first
abbrev pub does : Leaves Cause → (code : ℕ) → List Shape → List (List ℕ) → cells.LeafEnd
does leaves code shapes vals = let xs
    = arrays shapes (reverse vals) in given (leaves.written code) xs (leaves.ends code xs)

abbrev pub code_of : Leaves Cause → (code : ℕ) → List Shape → Code
code_of leaves code shapes = record { number = code; does = does leaves code shapes }

-- the arrays of a leaf are these views
pub record AreViews (node : ℕ) (written : List Bool) (vs : List View) (count : ℕ) (size : ℕ → ℕ) (writes : ℕ → Bool)
    (cell : ℕ → ℕ → Spot) : Type 0 where
  pub many : count ≡ length vs
  pub size_is : (i : ℕ) (v : View) → slice_get vs i ≡ Some v → size i ≡ length (places v)
  pub cell_is : (i k : ℕ) (v : View) → slice_get vs i ≡ Some v → k < length (places v) → cell i k
      ≡ spot node (get_or (places v) k 0)
  pub writes_is : (i : ℕ) → i < count → writes i ≡ get_or written i false
