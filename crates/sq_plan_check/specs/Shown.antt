-- What the deeds of entries touch.
use Rattle.std.specs.Prelude.{◌≡◌, ℕ, ◌*◌, ◌%◌, Bool, List, [], ◌∷◌}
use Rattle.sq_num.specs.Elements.{width}
use Rattle.sq_ir.specs.Events.{Event, Copy, Fill, Accumulate, Leaf}
use Rattle.sq_check_laws.specs.Touches as spec
use Rattle.sq_check_laws.specs.Touches.{row_touch, view_touches, Reads, Adds, Writes}
use Rattle.sq_touches.specs.ActLaws.{ShowsTouches, path_in}
use Rattle.sq_touches.specs.Puts.{HaveStrides, AreBelow}
use Rattle.sq_touches.specs.declared.act.Act.{Act}
use Rattle.sq_plan_check.specs.declared.entry.Deed.{Deed}
use Rattle.sq_plan_check.specs.declared.entry.Deed.TheVariants as deed

-- what an event touches, where its leaf may write these of its views
abbrev pub touches_by : (written : List Bool) → Event → List spec.Touch
touches_by ws (Copy from to bytes) = row_touch from bytes Reads ∷ row_touch to bytes Writes ∷ []
touches_by ws (Fill to e count v) = row_touch to (count * width e) Writes ∷ []
touches_by ws (Accumulate op e from to count) =
    row_touch from (count * width e) Reads ∷ row_touch to (count * width e) (Adds op e (to.at % width e)) ∷ []
touches_by ws (Leaf node code vs path) = view_touches node ws vs

-- the leaf of a leaf call
abbrev pub code_in : Event → ℕ
code_in (Leaf node code vs path) = code
code_in (Copy from to bytes) = 0
code_in (Fill to e count v) = 0
code_in (Accumulate op e from to count) = 0

pub record ShowsBy (written : List Bool) (a : Act) (e : Event) : Type 0 where
  pub touches : ShowsTouches a.touches (touches_by written e)
  pub path : a.path ≡ path_in e

-- the views of a leaf call have as many strides as extents
abbrev pub HaveViews : Deed → Type 0
HaveViews (deed.Copy from to bytes) = Unit {0}
HaveViews (deed.Fill to elem count value) = Unit {0}
HaveViews (deed.Acc op elem from to count) = Unit {0}
HaveViews (deed.Call node code views path) = HaveStrides views

-- and they have elements, whose bytes words reach over
abbrev pub HaveWords : Deed → Type 0
HaveWords (deed.Copy from to bytes) = Unit {0}
HaveWords (deed.Fill to elem count value) = Unit {0}
HaveWords (deed.Acc op elem from to count) = Unit {0}
HaveWords (deed.Call node code views path) = AreBelow views
