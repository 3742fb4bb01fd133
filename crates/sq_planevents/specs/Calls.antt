-- Leaf calls.
use Rattle.std.specs.Prelude.{◌≡◌, ◌≢◌, ℕ, ◌+◌, ◌^◌, ◌<◌, ◌==◌, ◌⊎◌, Bool, true, false, ◌&&◌, nat_eq, nat_le, Some, List, [], ◌∷◌, ◌++◌, length}
use Rattle.std.specs.List.{Contains, slice_get}
use denote.Enum.Bare.{sameb}
use Rattle.sq_num.specs.contracts.Elem as elem
use Rattle.sq_rect.specs.declared.view.View.{View}
use Rattle.sq_ir.specs.Events.{places}
use Rattle.sq_areas.specs.Areas.{reach_of, Share}
use Rattle.sq_plantext.specs.declared.text.ViewText.{ViewText}
use Rattle.sq_plantext.specs.declared.text.PlanText.{PlanText}
use Rattle.sq_planevents.specs.Views.{are_words, are_views, IsOnce, IsSmall, IsNear, IsShown}
use Rattle.sq_planevents.specs.declared.shapes.Shape.{Shape}
use Rattle.sq_planevents.specs.declared.shapes.LeafShapes.{LeafShapes}
use Rattle.sq_planevents.specs.declared.call.Touched.{Touched}

-- ---- what is asked of the call's numbers

abbrev pub is_same : List ℕ → List ℕ → Bool
is_same [] ys = length ys == 0
is_same (x ∷ xs) [] = false
is_same (x ∷ xs) (y ∷ ys) = nat_eq x y && is_same xs ys

-- the views are of these shapes, one of each
abbrev pub are_shaped : List Shape → List ViewText → Bool
are_shaped [] vs = length vs == 0
are_shaped (s ∷ ss) [] = false
are_shaped (s ∷ ss) (v ∷ vs) = sameb elem.the_type s.elem v.elem && is_same s.extents v.extents && are_shaped ss vs

abbrev pub is_path : List ℕ → Bool
is_path path = nat_le (length path) 64 && are_words path

abbrev pub is_taken : PlanText → (nodes scopes : List ℕ) → LeafShapes → List ViewText → (path : List ℕ) → Bool
is_taken x nodes scopes leaf views path =
    nat_le (length views) 32 && is_path path && are_shaped leaf.shapes views && are_views x nodes scopes views

-- ---- what is asked of the views' bytes

abbrev pub AreSmall : List ViewText → Type 0
AreSmall [] = Unit {0}
AreSmall (v ∷ vs) = IsSmall v × AreSmall vs

abbrev pub AreClose : PlanText → List ViewText → Type 0
AreClose x [] = Unit {0}
AreClose x (v ∷ vs) = (IsSmall v × IsNear x v) × AreClose x vs

-- those that are written give each byte to one element alone
abbrev pub AreOnce : List Bool → List ViewText → Type 0
AreOnce [] vs = Unit {0}
AreOnce (w ∷ ws) [] = Unit {0}
AreOnce (w ∷ ws) (v ∷ vs) = (w ≡ true → IsOnce v) × AreOnce ws vs

-- one that is written shares no byte with another
abbrev pub LieApart : List Bool → List View → Type 0
LieApart ws vs =
    (i j : ℕ) (v u : View) (k : ℕ) → i ≢ j → slice_get ws i ≡ Some true → slice_get vs i ≡ Some v → slice_get vs j ≡ Some u
    → Contains (places v) k → Contains (places u) k → ⊥

-- ---- the bytes as areas

abbrev pub IsReached : Touched → Type 0
IsReached t = t.area.at + reach_of t.area.steps t.area.run < 2 ^ 63

abbrev pub AreReached : List Touched → Type 0
AreReached [] = Unit {0}
AreReached (t ∷ ts) = IsReached t × AreReached ts

-- a byte is in both, and one of them is written
pub record Clash (t u : Touched) : Type 0 where
  pub written : (t.is_written ≡ true) ⊎ (u.is_written ≡ true)
  pub share : Share t.area.at t.area.run t.area.steps u.area

abbrev pub ClashAny : Touched → List Touched → Type 0
ClashAny t [] = ⊥
ClashAny t (u ∷ us) = Clash t u ⊎ ClashAny t us

abbrev pub TwoClash : List Touched → Type 0
TwoClash [] = ⊥
TwoClash (t ∷ ts) = ClashAny t ts ⊎ TwoClash ts

-- the bytes of each view, and whether it is written
abbrev pub AreShown : PlanText → List Bool → List ViewText → List Touched → Type 0
AreShown x [] vs ts = ts ≡ []
AreShown x (w ∷ ws) [] ts = ts ≡ []
AreShown x (w ∷ ws) (v ∷ vs) [] = ⊥
AreShown x (w ∷ ws) (v ∷ vs) (t ∷ ts) = ((t.is_written ≡ w) × IsShown x v t.area) × AreShown x ws vs ts

-- those of these views were put behind others
pub record ArePut (x : PlanText) (ws : List Bool) (vs : List ViewText) (old new : List Touched) : Type 0 where
  pub more : List Touched
  pub behind : new ≡ old ++ more
  pub shown : AreShown x ws vs more
