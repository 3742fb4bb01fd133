-- The plan's leaf events are the leaf calls.
use Rattle.std.proofs.Common.{◌≡◌, ℕ, zero, suc, ◌+◌, ◌<◌, List, [], ◌∷◌, ◌++◌, refl, sym, ap₂, ◌∙◌, subst, arith}
use Rattle.sq_leaf.specs.declared.shape.Shape.{Shape}
use Rattle.sq_ir.specs.Events.{Leaves}
use Rattle.sq_placed.specs.Placed.{Placed, Nothing, Then, Each, AtOnce, Gathers, Call, Hold, Piped, Leaf}
use Rattle.sq_cells.specs.Tree.{Cause}
use Rattle.sq_cells.specs.Lowered.{own}
use Rattle.sq_cells.specs.Leaves.{sum_below, leaf_calls}
use Rattle.sq_cells.proofs.LeafEvents.{leaves_are_calls}
use Rattle.sq_cells.specs.Alike.{Weight, kind_of}
use Rattle.sq_plan_laws.specs.Calling.{shapes_of}
use Rattle.sq_plan_laws.specs.OnBytes.{work, share, call_or_none}
use Rattle.sq_plan_laws.specs.Fitting.{IsOne}
use Rattle.sq_plan_laws.proofs.PlacedEntry.{is_entry}
use Rattle.sq_plan_laws.specs.Seated.{Sits, at_node}
use Rattle.sq_plan_laws.specs.LeafLaws.{codes_of}
use Rattle.sq_plan_laws.specs.Entry.{form_at}
use Rattle.sq_plan_laws.specs.LeafCalls.{calls_of, PlansCount}
use Rattle.sq_plan_laws.proofs.Entry.{plan_like}

sum_same : (n : ℕ) (x y : ℕ → ℕ) → ((t : ℕ) → t < n → x t ≡ y t) → sum_below n x ≡ sum_below n y
sum_same zero x y h = refl
sum_same (suc n) x y h = ap₂ (λ a b. a + b) (sum_same n x y (λ t lt. h t (omega arith))) (h n (omega arith))

module _ (leaves : Leaves Cause) (offset : ℕ → ℕ) (f : Weight) where
  -- of an iteration that is one call
  one_count : (p : Placed) (outer : List Shape) (path : List ℕ) → IsOne p
      → leaf_calls (kind_of f) (call_or_none (share (codes_of leaves) offset p outer).call).body path
      ≡ leaf_calls (kind_of f) (work (codes_of leaves) offset p outer) path
  one_count p outer path one = subst
      (λ x. leaf_calls (kind_of f) (call_or_none (share (codes_of leaves) offset x outer).call).body path
      ≡ leaf_calls (kind_of f) (work (codes_of leaves) offset x outer) path) (sym one.is) (omega arith)

  calls_same : (p : Placed) (outer : List Shape) (path : List ℕ) → Sits leaves p outer
      → leaf_calls (kind_of f) (work (codes_of leaves) offset p outer) path ≡ calls_of f p path
  calls_same Nothing outer path s = refl
  calls_same (Then a b) outer path s = ap₂ (λ x y. x + y) (calls_same a outer path s.0) (calls_same b outer path s.1)
  calls_same (Each n w) outer path s
      = sum_same n _ (λ t. calls_of f (w t) (path ++ t ∷ [])) (λ t lt. calls_same (w t) outer (path ++ t ∷ []) (s t lt))
  calls_same (AtOnce place spread n w) outer path s
      = sum_same n _ (λ t. calls_of f (w t) (path ++ t ∷ [])) (λ t lt. calls_same (w t) outer (path ++ t ∷ []) (s t lt))
  calls_same (Gathers r place spread zero w) outer path s = refl
  calls_same (Gathers r place spread (suc n) w) outer path s =
      sum_same (suc n) _ (λ t. calls_of f (w t) (path ++ t ∷ []))
      (λ t lt. one_count (w t) outer (path ++ t ∷ []) (s.1 t lt).0
      ∙ calls_same (w t) outer (path ++ t ∷ []) (s.1 t lt).2)
  calls_same (Call c w) outer path s = calls_same w (shapes_of c) path s.1
  calls_same (Hold args w) outer path s = calls_same w outer path s.1
  calls_same (Piped spread n calls w) outer path s
      = sum_same n _ (λ t. calls_of f (w t) (path ++ t ∷ []))
      (λ t lt. calls_same (w t) (shapes_of (calls t)) (path ++ t ∷ []) (s t lt).1)
  calls_same (Leaf code leaf shapes) outer path s = refl

pub plans_count : PlansCount
plans_count s leaves outer buffers may p plan f =
    (plan_like s leaves outer buffers may p plan).counted f
    ∙ leaves_are_calls (kind_of f) (work (codes_of leaves) s.offset p outer) (at_node s 0) 0
    (own (at_node s 0) (form_at s buffers)) []
    (is_entry (codes_of leaves) s.offset (at_node s 0) (form_at s buffers) outer may p plan.ready).sound
    ∙ calls_same leaves s.offset f p outer [] plan.sits
