-- Touches of views that are put behind others.
use Rattle.std.specs.Prelude.{◌≡◌, ◌^◌, Bool, true, false, List, [], ◌∷◌, ◌++◌, length}
use Rattle.sq_rect.specs.declared.view.View.{View}
use Rattle.sq_areas.specs.Alike.{IsBelow}
use Rattle.sq_check_laws.specs.Touches as spec
use Rattle.sq_touches.specs.ActLaws.{ShowsTouches}
use Rattle.sq_touches.specs.declared.touch.Way.{Way}
use Rattle.sq_touches.specs.declared.touch.Way.TheVariants as way
use Rattle.sq_touches.specs.declared.touch.Touch.{Touch}

abbrev pub first_flag : List Bool → Bool
first_flag [] = false
first_flag (w ∷ ws) = w

abbrev pub rest_flags : List Bool → List Bool
rest_flags [] = []
rest_flags (w ∷ ws) = ws

abbrev pub way_of : Bool → Way
way_of true = way.Writes
way_of false = way.Reads

-- touches that show these were put behind others
pub record ArePut (old new : List Touch) (us : List spec.Touch) : Type 0 where
  pub more : List Touch
  pub behind : new ≡ old ++ more
  pub shown : ShowsTouches more us

-- each has as many strides as extents
abbrev pub HaveStrides : List View → Type 0
HaveStrides [] = Unit {0}
HaveStrides (v ∷ vs) = (length v.strides ≡ length v.extents) × HaveStrides vs

-- each has elements, and they lie below so many bytes that words reach over them
abbrev pub AreBelow : List View → Type 0
AreBelow [] = Unit {0}
AreBelow (v ∷ vs) = IsBelow v (2 ^ 32) × AreBelow vs
