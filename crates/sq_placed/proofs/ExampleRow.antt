-- One array of 8 `int`s, doubled by blocks of 4 at two children: the tree has the nine events of its run.
use Rattle.std.proofs.Common.{◌≡◌, ℕ, zero, suc, pos, true, false, [], ◌∷◌, None, Some, refl}
use Rattle.std.specs.Prelude.{◌+◌, ◌*◌}
use Rattle.sq_num.specs.declared.Elem.TheVariants.{Int}
use Rattle.sq_text.specs.declared.spread.SpreadRule.TheVariants.{Cyclic}
use Rattle.sq_ir.specs.Rect.declared.view.View.{View}
use Rattle.sq_ir.specs.Ast.declared.program.Mode.{Mode}
use Rattle.sq_ir.specs.Ast.declared.program.Mode.TheVariants.{Input, Output}
use Rattle.sq_ir.specs.Leaf.declared.shape.Shape.{Shape}
use Rattle.sq_ir.specs.Leaf.Leaf.{Leaf as LeafSource}
use Rattle.sq_ir.specs.Tree.{Act, Seq, Par, Within}
use Rattle.sq_ir.specs.Events.{Spot, Copy, Fill, Leaf as LeafEvent}
use Rattle.sq_ir.specs.Written.{Setting, PlanTree, seq_of, par_of, scoped}
use Rattle.sq_placed.specs.declared.home.Home.{Home}
use Rattle.sq_placed.specs.declared.home.Home.TheVariants.{InPlace, Own}
use Rattle.sq_placed.specs.Placed.{Placed, PlacedArg, Nothing, Then, AtOnce, Call, Leaf}
use Rattle.sq_placed.specs.Seats.{buffer_seat}
use Rattle.sq_placed.specs.Trees.{tree}

-- node 0 has the children 1 and 2; buffers 0 and 1 stand at the root, 2 and 3 at the children
setting : Setting
setting = record {
  children = fan;
  child = λ n c. 1 + c;
  capacity = λ n. 64;
  buffers = 4;
  level = deep;
  size
      = λ b. 32;
  offset = place;
}
  where
    fan : ℕ → ℕ
    fan zero = 2
    fan (suc n) = 0

    place : ℕ → ℕ
    place zero = 0
    place (suc zero) = 32
    place (suc (suc zero)) = 0
    place (suc (suc (suc b))) = 16

    deep : ℕ → ℕ
    deep zero = 0
    deep (suc zero) = 0
    deep (suc (suc b)) = 1

shape : ℕ → Shape
shape n = record { elem = Int; extents = n ∷ [] }

-- the part of an array from a number on, so long
passed : Mode → (array from length : ℕ) → Home → PlacedArg
passed mode array from length home =
    record {
      argument = record {
        mode = mode;
        is_reduced = false;
        array = array;
        rect
            = record { lo = from; hi = from + length } ∷ [];
      };
      gathers = None;
      shape = shape length;
      home = home;
    }

entry : LeafSource → Placed
entry leaf =
    Call (record {
      form = 0;
      lower = false;
      args = passed Input 0 0 8 InPlace ∷ passed Output 1 0 8 InPlace ∷ [];
      locals
          = [];
    })
    (Then (AtOnce (record { line = 5; col = 3 }) (Some Cyclic) 2 (λ t.
    Then (Call (record {
      form = 1;
      lower = true;
      args = passed Input 0 (4 * t) 4 (Own 2)
          ∷ passed Output 1 (4 * t) 4 (Own 3) ∷ [];
      locals = [];
    })
    (Leaf 0 leaf (shape 4 ∷ shape 4 ∷ []))) Nothing)) Nothing)

spot : ℕ → ℕ → Spot
spot n a = record { node = n; at = a }

view : ℕ → View
view a = record { at = a; elem = Int; extents = 4 ∷ []; strides = 1 ∷ [] }

-- what stands at one child
lane : ℕ → ℕ → PlanTree
lane node i =
    Within (record { node = node; buffers = 2 ∷ 3 ∷ [] })
    (Seq (Par (Act (Copy (spot 0 (16 * i)) (spot node 0) 16)) (Act (Fill (spot node 16) Int 4 (pos 0))))
    (Seq (Act (LeafEvent node 0 (view 0 ∷ view 16 ∷ []) (i ∷ [])))
    (Act (Copy (spot node 16) (spot 0 (32 + 16 * i)) 16))))

nine_events : (leaf : LeafSource)
    → scoped 0 (0 ∷ 1 ∷ []) (tree setting (entry leaf) 0 0
    (buffer_seat setting 0 0 (shape 8) ∷ buffer_seat setting 0 1 (shape 8) ∷ []) [])
    ≡ Within (record { node = 0; buffers = 0 ∷ 1 ∷ [] })
    (Seq (Act (Fill (spot 0 32) Int 8 (pos 0))) (Par (lane 1 0) (lane 2 1)))
unfolding setting shape passed entry spot view lane seq_of par_of
nine_events leaf = refl
