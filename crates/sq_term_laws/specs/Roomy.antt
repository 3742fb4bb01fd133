-- Rows inside buffers: what is asked of actions, of views, and of blocks.
use Rattle.std.specs.Prelude.{◌≡◌, ℕ, suc, ◌+◌, ◌*◌, ◌<◌, ◌≤◌, pos, List, [], ◌∷◌, ◌++◌, map, length, take, drop}
use Rattle.std.specs.Prelude.{get_or, slice_get, Some}
use Rattle.std.specs.List.{All, Contains}
use Rattle.sq_num.specs.declared.Elem.TheVariants.{Long}
use Rattle.sq_num.specs.Elements.{width, IsValue}
use Rattle.sq_rect.specs.Extents.{rows_of, product}
use Rattle.sq_rect.specs.Placing.{offset}
use Rattle.sq_ir.specs.Leaf.declared.shape.Shape.{Shape}
use Rattle.sq_ir.specs.Events.{places}
use Rattle.sq_ir.specs.Written.{Setting, Env, count_of, view_of}
use Rattle.sq_ir.specs.Plans.{IsCount, AskedOfActions}
use Rattle.sq_ir.specs.declared.num.Num.{Num}
use Rattle.sq_ir.specs.declared.term.Slot.{Slot}
use Rattle.sq_ir.specs.declared.term.LeafView.{LeafView}
use Rattle.sq_ir.specs.declared.term.Action.TheVariants as action
use Rattle.sq_blocks.specs.declared.argument.Argument.{Argument}
use Rattle.sq_spec.specs.declared.statement.CallInstance.{CallInstance}
use Rattle.sq_spec.specs.declared.statement.Statement.{Statement}
use Rattle.sq_spec.specs.declared.statement.Statement.TheOpen.{Statement-F}
use Rattle.sq_spec.specs.declared.statement.Statement.TheFolds.{fold-Statement}
use Rattle.sq_spec.specs.declared.body.Body.{Body}
use Rattle.sq_spec.specs.declared.body.Body.TheVariants as body
use Rattle.sq_spec.specs.declared.body.FormBody.{FormBody}
use Rattle.sq_placed.specs.declared.home.Homes.{Homes}
use Rattle.sq_term.specs.Terms.{buffer_or}
use Rattle.sq_placed.specs.declared.home.Home.{Home}
use Rattle.sq_placed.specs.declared.home.Home.TheVariants.{InPlace, Own, Held, Twin}
use Rattle.sq_term.specs.declared.context.Context.{Context}
use Rattle.sq_term.specs.declared.context.Move.{Move}
use Rattle.sq_placed.specs.Seats.{firsts}
use Rattle.sq_term.specs.Stands.{Each, IsNumber}
use Rattle.sq_term_laws.specs.Fits.{Has}
use Rattle.sq_term_laws.specs.Leaves.{left_of, BodyLeaves, BodySame}

-- the row of so many bytes lies inside its buffer, and its number has its value
pub record InRow (s : Setting) (env : Env) (slot : Slot) (bytes : ℕ) : Type 0 where
  pub at : IsCount s env slot.at
  pub inside : count_of s slot.at env + bytes ≤ s.size slot.buffer

-- each byte of the view lies inside its buffer, and its number has its value
pub record InView (s : Setting) (env : Env) (v : LeafView) : Type 0 where
  pub at : IsCount s env v.slot.at
  pub inside : (k : ℕ) → Contains (places (view_of s env v)) k → (s.offset v.slot.buffer ≤ k)
      × (k < s.offset v.slot.buffer + s.size v.slot.buffer)

-- `InBuffers` of sq_ir, but for scopes, and for the level of a leaf's views
abbrev pub RowsInside : Setting → AskedOfActions
RowsInside s env bs (action.CopyRow from to bytes) = InRow s env from bytes × InRow s env to bytes
RowsInside s env bs (action.FillRow to elem count value) = InRow s env to (count * width elem)
RowsInside s env bs (action.AccRow op elem from to count) = InRow s env from (count * width elem)
    × InRow s env to (count * width elem)
RowsInside s env bs (action.Leaf code views path) = All (InView s env) views × All (IsCount s env) path

-- One to three dimensions, whose rows lie side by side: strides, and the last coordinate, which is one less than the
-- extent in each dimension.
pub data IsLined : List ℕ → List ℕ → Type 0 where
  one : (a : ℕ) → IsLined (1 ∷ []) (a ∷ [])
  two : (x a b : ℕ) → IsLined (x ∷ 1 ∷ []) (a ∷ b ∷ [])
  three : (x y a b c : ℕ) → IsLined (x ∷ y ∷ 1 ∷ []) (a ∷ b ∷ c ∷ [])

abbrev pub AreSmall : List ℕ → Type 0
AreSmall [] = Unit {0}
AreSmall (x ∷ xs) = IsValue Long (pos x) × AreSmall xs

-- tops: the last coordinate
pub record IsShaped (x : Shape) (tops : List ℕ) : Type 0 where
  pub last : x.extents ≡ map suc tops
  pub rows : IsValue Long (pos (rows_of x.extents))

-- the view is of this shape, its number has its value, and it ends inside its buffer
pub record IsRoomy (s : Setting) (turns : List ℕ) (v : LeafView) (x : Shape) : Type 0 where
  pub elem : v.elem ≡ x.elem
  pub extents : v.extents ≡ x.extents
  pub tops : List ℕ
  pub shaped : IsShaped x tops
  pub lined : IsLined v.strides tops
  pub strides : AreSmall v.strides
  pub bytes : ℕ
  pub number : IsNumber s turns v.slot.at bytes
  pub has : Has s turns v.slot.at
  pub inside : bytes + width v.elem * suc (offset v.strides tops) ≤ s.size v.slot.buffer

-- first coordinates and the last of a block: it ends before the last of its array
pub data IsBelow : (lows lasts tops : List ℕ) → Type 0 where
  no_more : IsBelow [] [] []
  in_each : {l i t : ℕ} {lows lasts tops : List ℕ} → l + i ≤ t → IsBelow lows lasts tops
      → IsBelow (l ∷ lows) (i ∷ lasts) (t ∷ tops)

-- one to three dimensions
abbrev pub AreDims : List ℕ → Type 0
AreDims (a ∷ []) = Unit {0}
AreDims (a ∷ b ∷ []) = Unit {0}
AreDims (a ∷ b ∷ c ∷ []) = Unit {0}
AreDims _ = ⊥

-- a parameter of this shape at one call: its block of the caller's array, and where the callee has it
pub record IsRoomyMove (s : Setting) (turns : List ℕ) (m : Move) (x : Shape) : Type 0 where
  pub outside : IsRoomy s turns m.outside x
  pub own : IsRoomy s turns m.own x

-- sizes of buffers have numbers in 64 bits
pub record HaveSizes (s : Setting) : Type 0 where
  pub each : (b : ℕ) → IsValue Long (pos (s.size b))

-- ---- what is asked of shapes, homes and arguments

-- one to three dimensions without an extent of 0, and sizes with numbers in 64 bits
pub record IsWhole (x : Shape) : Type 0 where
  pub tops : List ℕ
  pub shaped : IsShaped x tops
  pub dims : AreDims tops
  pub small : IsValue Long (pos (product x.extents))

abbrev pub AreWhole : List Shape → Type 0
AreWhole [] = Unit {0}
AreWhole (x ∷ xs) = IsWhole x × AreWhole xs

-- the array fits into the buffer
abbrev pub FitsInto : Setting → ℕ → Shape → Type 0
FitsInto s b x = width x.elem * product x.extents ≤ s.size b

abbrev pub HomeFits : Setting → Home → Shape → Type 0
HomeFits s InPlace x = Unit {0}
HomeFits s (Own b) x = FitsInto s b x
HomeFits s (Held b loops) x = FitsInto s b x
HomeFits s (Twin b c) x = FitsInto s b x × FitsInto s c x

-- an argument for a parameter of this shape: its array is there, and the block ends inside it
pub record ArgFits (outer : List Shape) (a : Argument) (y : Shape) : Type 0 where
  pub x : Shape
  pub there : slice_get outer a.array ≡ Some x
  pub elem : x.elem ≡ y.elem
  pub tops : List ℕ
  pub whole : x.extents ≡ map suc tops
  pub lasts : List ℕ
  pub block : IsShaped y lasts
  pub below : IsBelow (firsts a.rect) lasts tops

-- a number with its value in 64 bits
pub record IsCounted (s : Setting) (turns : List ℕ) (x : Num) (k : ℕ) : Type 0 where
  pub number : IsNumber s turns x k
  pub has : Has s turns x

-- the views of a form's arrays, and the numbers of a path
pub record Sees (s : Setting) (turns : List ℕ) (outer : List Shape) (c : Context) : Type 0 where
  pub views : Each (IsRoomy s turns) c.views outer
  pub numbers : List ℕ
  pub path : Each (IsCounted s turns) c.path numbers

-- ---- the rows of a form's calls

abbrev pub joined_rows : List (List CallInstance) → List CallInstance
joined_rows [] = []
joined_rows (x ∷ xs) = x ++ joined_rows xs

abbrev pub reached_step : Statement-F (List CallInstance) → List CallInstance
reached_step (Statement-F.Call lower times) = times
reached_step (Statement-F.Map place m counts starts parts) = joined_rows parts

abbrev pub reached_in : Statement → List CallInstance
reached_in = fold-Statement (List CallInstance) reached_step

abbrev pub reached_of : Body → List CallInstance
reached_of (body.Leaf code) = []
reached_of (body.Inner list) = joined_rows (map reached_in list)

-- the arguments of a row are as many as the parameters of its form, and fit them
abbrev pub RowFits : (ℕ → FormBody) → (ℕ → Homes) → (outer : List Shape) → CallInstance → Type 0
RowFits bodies homes outer r = Each (ArgFits outer) r.args (take (length (homes r.form).params) (bodies r.form).arrays)

abbrev pub RowsFit : (ℕ → FormBody) → (ℕ → Homes) → (outer : List Shape) → List CallInstance → Type 0
RowsFit bodies homes outer [] = Unit {0}
RowsFit bodies homes outer (r ∷ rest) = RowFits bodies homes outer r × RowsFit bodies homes outer rest

-- Arrays fit into the buffers of their homes, and blocks lie inside arrays; loops that arguments leave have iterations,
-- and the rows of a call take the same arrays.
pub record AreRoomy (s : Setting) (bodies : ℕ → FormBody) (homes : ℕ → Homes) : Type 0 where
  pub sizes : HaveSizes s
  pub whole : (f : ℕ) → AreWhole (bodies f).arrays
  pub params : (f i : ℕ) (x : Shape) → slice_get (bodies f).arrays i ≡ Some x
      → HomeFits s (get_or (homes f).params i InPlace) x
  pub locals : (f : ℕ) → Each (FitsInto s) (homes f).locals (drop (length (homes f).params) (bodies f).arrays)
  pub rows : (f : ℕ) → RowsFit bodies homes (bodies f).arrays (reached_of (bodies f).body)
  pub leaves : (f : ℕ) → BodyLeaves (left_of homes) (bodies f).body
  pub same : (f : ℕ) → BodySame (bodies f).body

-- the entry's arrays fit into its buffers
abbrev pub EntryFits : Setting → List Home → List Shape → Type 0
EntryFits s [] xs = Unit {0}
EntryFits s (h ∷ hs) [] = Unit {0}
EntryFits s (h ∷ hs) (x ∷ xs) = FitsInto s (buffer_or h) x × EntryFits s hs xs
