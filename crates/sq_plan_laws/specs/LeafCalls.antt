-- The leaf calls of a placed source, with their paths.
use Rattle.std.specs.Prelude.{◌≡◌, ℕ, ◌+◌, List, [], ◌∷◌, ◌++◌, Bool}
use Rattle.sq_leaf.specs.declared.shape.Shape.{Shape}
use Rattle.sq_ir.specs.Events.{Leaves}
use Rattle.sq_ir.specs.Written.{Setting}
use Rattle.sq_placed.specs.Placed.{Placed, Nothing, Then, Each, AtOnce, Gathers, Call, Hold, Piped, Leaf}
use Rattle.sq_cells.specs.Tree.{Cause}
use Rattle.sq_cells.specs.Leaves.{sum_below}
use Rattle.sq_cells.specs.Alike.{Weight, leaf_count}
use Rattle.sq_plan_laws.specs.Entry.{plan_tree, IsPlan}

abbrev pub calls_of : Weight → Placed → (path : List ℕ) → ℕ
calls_of f Nothing path = 0
calls_of f (Then a b) path = calls_of f a path + calls_of f b path
calls_of f (Each n w) path = sum_below n (λ t. calls_of f (w t) (path ++ t ∷ []))
calls_of f (AtOnce place spread n w) path = sum_below n (λ t. calls_of f (w t) (path ++ t ∷ []))
calls_of f (Gathers r place spread n w) path = sum_below n (λ t. calls_of f (w t) (path ++ t ∷ []))
calls_of f (Call c w) path = calls_of f w path
calls_of f (Hold args w) path = calls_of f w path
calls_of f (Piped spread n calls w) path = sum_below n (λ t. calls_of f (w t) (path ++ t ∷ []))
calls_of f (Leaf code leaf shapes) path = f code path

-- The plan has one leaf event for each leaf call and no other, with its number and path.
abbrev pub PlansCount : Type 0
PlansCount =
    (s : Setting) (leaves : Leaves Cause) (outer : List Shape) (buffers : List ℕ) (may : ℕ → Bool) (p : Placed)
    → IsPlan s leaves outer buffers may p
    → (f : Weight) → leaf_count f (plan_tree s p outer buffers) ≡ calls_of f p []
