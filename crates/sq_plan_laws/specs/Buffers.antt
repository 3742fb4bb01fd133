-- Which buffers a placed source brings into scope, and what is asked of them: each array has its own.
use Rattle.std.specs.Prelude.{◌≡◌, ◌≢◌, ◌⊎◌, ℕ, ◌<◌, ◌≤◌, Bool, true, List, [], ◌++◌, map, Option, Some, None}
use Rattle.std.specs.Prelude.{slice_get}
use Rattle.std.specs.List.{All, Contains}
use Rattle.sq_text.specs.declared.place.Place.{Place}
use Rattle.sq_text.specs.declared.spread.SpreadRule.{SpreadRule}
use Rattle.sq_leaf.specs.declared.shape.Shape.{Shape}
use Rattle.sq_ir.specs.Written.{Setting}
use Rattle.sq_placed.specs.declared.home.Home.{Home}
use Rattle.sq_placed.specs.declared.home.Home.TheVariants.{InPlace, Own, Held, Twin}
use Rattle.sq_placed.specs.Placed.{Placed, PlacedArg, PlacedLocal, PlacedCall, Nothing, Then, Each, AtOnce, Gathers}
use Rattle.sq_placed.specs.Placed.{Call, Hold, Piped, Leaf}
use Rattle.sq_placed.specs.Trees.{callee_node, held_buffers, home_in_set}
use Rattle.sq_cells.specs.Lowered.{lane_kid, HasLane}
use Rattle.sq_plan_laws.specs.Codes.{bytes_in}
use Rattle.sq_plan_laws.specs.Calling.{shapes_of}
use Rattle.sq_plan_laws.specs.OnBytes.{rule_of}
use Rattle.sq_plan_laws.specs.Seated.{at_node}

abbrev pub home_buffer : Home → Option ℕ
home_buffer InPlace = None
home_buffer (Own b) = Some b
home_buffer (Held b loops) = Some b
home_buffer (Twin b c) = Some b

-- the one that a call brings into scope: what is held stands in scope round it
abbrev pub opened_buffer : Home → Option ℕ
opened_buffer InPlace = None
opened_buffer (Own b) = Some b
opened_buffer (Held b loops) = None
opened_buffer (Twin b c) = Some b

-- where a loop overlaps its transfers, by the set of buffers that an iteration uses: the first, or the second
abbrev pub buffer_in : (set : ℕ) → Home → Option ℕ
buffer_in k h = home_buffer (home_in_set k h)

abbrev pub opened_in : (set : ℕ) → Home → Option ℕ
opened_in k h = opened_buffer (home_in_set k h)

-- the buffers of a call's arrays: of its arguments, and then of its locals
abbrev pub array_buffers : (Home → Option ℕ) → PlacedCall → List (Option ℕ)
array_buffers buffer c = map (λ (p : PlacedArg). buffer p.home) c.args
    ++ map (λ (k : PlacedLocal). Some k.buffer) c.locals

-- the i-th array of the call has this buffer
abbrev pub HasBuffer : PlacedCall → (i b : ℕ) → Type 0
HasBuffer c i b = slice_get (array_buffers home_buffer c) i ≡ Some (Some b)

-- and the call brings it into scope
abbrev pub OpensBuffer : PlacedCall → (i b : ℕ) → Type 0
OpensBuffer c i b = slice_get (array_buffers opened_buffer c) i ≡ Some (Some b)

-- so it is in a set
abbrev pub HasInSet : PlacedCall → (set i b : ℕ) → Type 0
HasInSet c k i b = slice_get (array_buffers (buffer_in k) c) i ≡ Some (Some b)

abbrev pub OpensInSet : PlacedCall → (set i b : ℕ) → Type 0
OpensInSet c k i b = slice_get (array_buffers (opened_in k) c) i ≡ Some (Some b)

-- the i-th of the arguments that leave a loop has this buffer
abbrev pub HoldsBuffer : List PlacedArg → (i b : ℕ) → Type 0
HoldsBuffer args i b = slice_get (map (λ (p : PlacedArg). home_buffer p.home) args) i ≡ Some (Some b)

-- a call in it brings this buffer into scope, or a loop that arguments leave
abbrev pub Opens : Placed → (b : ℕ) → Type 0
Opens Nothing b = ⊥
Opens (Then x y) b = Opens x b ⊎ Opens y b
Opens (Each n w) b = (t : ℕ) × (t < n) × Opens (w t) b
Opens (AtOnce place spread n w) b = (t : ℕ) × (t < n) × Opens (w t) b
Opens (Gathers r place spread n w) b = (t : ℕ) × (t < n) × Opens (w t) b
Opens (Call c w) b = ((i : ℕ) × OpensBuffer c i b) ⊎ Opens w b
Opens (Hold args w) b = ((i : ℕ) × HoldsBuffer args i b) ⊎ Opens w b
Opens (Piped spread n calls w) b =
    (t : ℕ) × (t < n) × (((set i : ℕ) × OpensInSet (calls t) set i b) ⊎ Opens (w t) b)
Opens (Leaf code leaf shapes) b = ⊥

-- Where a parameter may stand: in place, in a buffer round the call, or, if the call is a lower one, in one of these
-- that loops round it hold.
abbrev pub IsAmong : (lower : Bool) → (held : List ℕ) → Home → Type 0
IsAmong lower held InPlace = Unit {0}
IsAmong lower held (Own b) = Unit {0}
IsAmong lower held (Held b loops) = (lower ≡ true) × Contains held b
IsAmong lower held (Twin b c) = ⊥

-- No two arrays of a call have one buffer, nothing further in brings it into scope again, and the arrays fit into
-- theirs; locals have elements.
pub record CallOwns (s : Setting) (held : List ℕ) (c : PlacedCall) (w : Placed) : Type 0 where
  pub homes : (i : ℕ) (p : PlacedArg) → slice_get c.args i ≡ Some p → IsAmong c.lower held p.home
  pub distinct : (i j b : ℕ) → HasBuffer c i b → HasBuffer c j b → i ≡ j
  pub inner : (i b : ℕ) → HasBuffer c i b → Opens w b → ⊥
  pub sizes : (i b : ℕ) (sh : Shape) → HasBuffer c i b → slice_get (shapes_of c) i ≡ Some sh → bytes_in sh ≤ s.size b
  pub some : (j : ℕ) (k : PlacedLocal) → slice_get c.locals j ≡ Some k → All (λ n. 0 < n) k.shape.extents

-- Where a parameter may stand in a loop whose transfers overlap: in two buffers, or in one that a loop round its call
-- holds.
abbrev pub IsTwice : (held : List ℕ) → Home → Type 0
IsTwice held InPlace = ⊥
IsTwice held (Own b) = ⊥
IsTwice held (Held b loops) = Contains held b
IsTwice held (Twin b c) = b ≢ c

-- So of a call in a loop whose transfers overlap, both sets counted.
pub record PipeOwns (s : Setting) (held : List ℕ) (c : PlacedCall) (w : Placed) : Type 0 where
  pub homes : (i : ℕ) (p : PlacedArg) → slice_get c.args i ≡ Some p → IsTwice held p.home
  pub distinct : (k l i j b : ℕ) → HasInSet c k i b → HasInSet c l j b → i ≡ j
  pub inner : (k i b : ℕ) → HasInSet c k i b → Opens w b → ⊥
  pub sizes : (k i b : ℕ) (sh : Shape) → HasInSet c k i b → slice_get (shapes_of c) i ≡ Some sh → bytes_in sh ≤ s.size b
  pub some : (j : ℕ) (k : PlacedLocal) → slice_get c.locals j ≡ Some k → All (λ n. 0 < n) k.shape.extents

-- an iteration of a spread map stands in no loop that holds
abbrev pub held_round : Option (Place × SpreadRule) → (held : List ℕ) → List ℕ
held_round None held = held
held_round (Some p) held = []

-- So of the arguments that leave a loop: nothing in the loop brings a buffer of theirs into scope again.
pub record HoldOwns (s : Setting) (args : List PlacedArg) (w : Placed) : Type 0 where
  pub distinct : (i j b : ℕ) → HoldsBuffer args i b → HoldsBuffer args j b → i ≡ j
  pub inner : (i b : ℕ) → HoldsBuffer args i b → Opens w b → ⊥
  pub sizes : (i b loops : ℕ) (p : PlacedArg) → slice_get args i ≡ Some p → p.home ≡ Held b loops
      → bytes_in p.shape ≤ s.size b

-- So it is of each call, of each loop whose transfers overlap and of each that arguments leave, in loops that hold
-- these
-- buffers. A callee's loops begin anew, and so does what stands in a map whose iterations are unordered.
abbrev pub OwnIn : Setting → (held : List ℕ) → Placed → Type 0
OwnIn s held Nothing = Unit {0}
OwnIn s held (Then x y) = OwnIn s held x × OwnIn s held y
OwnIn s held (Each n w) = (t : ℕ) → t < n → OwnIn s held (w t)
OwnIn s held (AtOnce place spread n w) = (t : ℕ) → t < n → OwnIn s [] (w t)
OwnIn s held (Gathers r place spread n w) = (t : ℕ) → t < n → OwnIn s [] (w t)
OwnIn s held (Call c w) = CallOwns s held c w × OwnIn s [] w
OwnIn s held (Hold args w) = HoldOwns s args w × OwnIn s (held_buffers args ++ held) w
OwnIn s held (Piped spread n calls w) =
    (t : ℕ) → t < n → PipeOwns s (held_round spread held) (calls t) (w t) × OwnIn s [] (w t)
OwnIn s held (Leaf code leaf shapes) = Unit {0}

-- each array has a buffer of its own
abbrev pub Owns : Setting → Placed → Type 0
Owns s p = OwnIn s [] p

-- each iteration of a spread map has a child
abbrev pub HaveLanes : Setting → Placed → (node child : ℕ) → Type 0
HaveLanes s Nothing node child = Unit {0}
HaveLanes s (Then x y) node child = HaveLanes s x node child × HaveLanes s y node child
HaveLanes s (Each n w) node child = (t : ℕ) → t < n → HaveLanes s (w t) node child
HaveLanes s (AtOnce place spread n w) node child =
    (t : ℕ) → t < n → HasLane spread (at_node s node) n t
    × HaveLanes s (w t) node (lane_kid spread (at_node s node) child n t)
HaveLanes s (Gathers r place spread n w) node child =
    (t : ℕ) → t < n → HasLane spread (at_node s node) n t
    × HaveLanes s (w t) node (lane_kid spread (at_node s node) child n t)
HaveLanes s (Call c w) node child = HaveLanes s w (callee_node s c.lower node child) 0
HaveLanes s (Hold args w) node child = HaveLanes s w node child
HaveLanes s (Piped spread n calls w) node child =
    (t : ℕ) → t < n → HasLane (rule_of spread) (at_node s node) n t
    × HaveLanes s (w t) (s.child node (lane_kid (rule_of spread) (at_node s node) child n t)) 0
HaveLanes s (Leaf code leaf shapes) node child = Unit {0}
