-- What acts show of events.
use Rattle.std.specs.Prelude.{◌≡◌, ℕ, true, Option, Some, None, List, [], ◌∷◌}
use Rattle.sq_ir.specs.Events.{Event, Copy, Fill, Accumulate, Leaf, Leaves, AreIndependent, is_among}
use Rattle.sq_areas.specs.Areas.{HasByte}
use Rattle.sq_check_laws.specs.Touches as spec
use Rattle.sq_check_laws.specs.Touches.{touches}
use Rattle.sq_touches.specs.Acts.{seen_way, Depend}
use Rattle.sq_touches.specs.declared.touch.Touch.{Touch}
use Rattle.sq_touches.specs.declared.act.Act.{Act}

-- the bytes are those of the area, touched in one way
pub record ShowsTouch (x : Touch) (y : spec.Touch) : Type 0 where
  pub node : x.node ≡ y.node
  pub kind : seen_way x.way ≡ y.kind
  pub there : (k : ℕ) → is_among y.bytes k ≡ true → HasByte x.area.steps x.area.at x.area.run k
  pub back : (k : ℕ) → HasByte x.area.steps x.area.at x.area.run k → is_among y.bytes k ≡ true

abbrev pub ShowsTouches : List Touch → List spec.Touch → Type 0
ShowsTouches [] [] = Unit {0}
ShowsTouches (x ∷ xs) (y ∷ ys) = ShowsTouch x y × ShowsTouches xs ys
ShowsTouches xs ys = ⊥

-- the path of a leaf call
abbrev pub path_in : Event → Option (List ℕ)
path_in (Leaf node code vs path) = Some path
path_in (Copy from to bytes) = None
path_in (Fill to e count v) = None
path_in (Accumulate op e from to count) = None

-- the act has the bytes that the event touches, each touched as the event touches it, and its path
pub record Shows {C : Type 0} (leaves : Leaves C) (a : Act) (e : Event) : Type 0 where
  pub touches : ShowsTouches a.touches (touches leaves e)
  pub path : a.path ≡ path_in e

-- Events are independent exactly where acts that show them don't depend on one another.
abbrev pub ActsTellDependence : (C : Type 0) → Type 0
ActsTellDependence C =
    (leaves : Leaves C) (a b : Act) (e f : Event) → Shows leaves a e → Shows leaves b f
    → (Depend a b → ¬ AreIndependent leaves e f) × (¬ Depend a b → AreIndependent leaves e f)
