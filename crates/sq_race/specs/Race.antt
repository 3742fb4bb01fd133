-- Races of a program's forms: which pairs of accesses are one, and which comes first.
use Rattle.std.specs.Prelude.{◌≡◌, ℕ, ◌<◌, ◌≤◌, ◌⊎◌, true, List, [], ◌∷◌, ◌++◌, map, take, slice_get, get_or, Option, Some, None}
use Rattle.sq_text.specs.Names.{Bytes}
use Rattle.sq_ast.specs.declared.program.Body.{Body}
use Rattle.sq_ast.specs.declared.program.Body.TheVariants as body
use Rattle.sq_ast.specs.declared.program.Decl.{Decl}
use Rattle.sq_ast.specs.declared.program.Decl.TheVariants as decl
use Rattle.sq_ast.specs.declared.program.Variant.{Variant}
use Rattle.sq_mapping.specs.declared.mapping.Instance.{Instance}
use Rattle.sq_rect.specs.Blocks.{Share}
use Rattle.sq_forms.specs.Tables.{variant_of, first_of_kind}
use Rattle.sq_forms.specs.declared.form.Form.{Form}
use Rattle.sq_forms.specs.declared.form.Use.{Use}
use Rattle.sq_spec.specs.declared.resolved.Resolved.{Resolved}
use Rattle.sq_ast.specs.Modes.{is_written}
use Rattle.sq_race.specs.Least.{IsLess}
use Rattle.sq_race.specs.Table.{maps_in}
use Rattle.sq_race.specs.declared.map.Map.{Map}
use Rattle.sq_race.specs.declared.race.Race.{Race}
use Rattle.sq_race.specs.declared.forms.Found.{Found}

-- The access is one of the run of the map in which the maps round it have these numbers. Of a `mapreduce` the array
-- that it reduces into is left aside.
pub record IsOf (m : Map) (round : List ℕ) (u : Use) : Type 0 where
  pub call : (m.calls.lo ≤ u.call) × (u.call < m.calls.hi)
  pub kept : m.reduced ≡ Some u.arg → ⊥
  pub round_is : take m.depth u.iterations ≡ round

-- Two accesses of different iterations of one run share an element, and one of them writes.
pub record IsRace (m : Map) (round : List ℕ) (a b : Use) : Type 0 where
  pub one : IsOf m round a
  pub other : IsOf m round b
  pub iterations : slice_get a.iterations m.depth ≡ slice_get b.iterations m.depth → ⊥
  pub array : a.array ≡ b.array
  pub share : Share a.rect b.rect
  pub write : (is_written a.mode ≡ true) ⊎ (is_written b.mode ≡ true)

-- These accesses race in this run of this map, the earlier one and the later one.
pub record HoldsIn (maps : List Map) (uses : List Use) (round : List ℕ) (x : Found) : Type 0 where
  pub map : Map
  pub a : Use
  pub b : Use
  pub map_is : slice_get maps x.map ≡ Some map
  pub earlier_is : slice_get uses x.earlier ≡ Some a
  pub later_is : slice_get uses x.later ≡ Some b
  pub before : x.earlier < x.later
  pub race : IsRace map round a b

-- by the number of the map, then by the numbers of the maps round it, then by the later access, then by the earlier one
-- (that maps are numbered as they stand in the text is said in TextOrder)
abbrev pub AtOrBefore : List ℕ → Found → List ℕ → Found → Type 0
AtOrBefore r x s y =
    (x.map < y.map) ⊎ ((x.map ≡ y.map) × (
    IsLess r s ⊎ ((r ≡ s) × (
    (x.later < y.later) ⊎ ((x.later ≡ y.later) × (x.earlier ≤ y.earlier))))))

-- ---- forms

-- the variant of an instance
abbrev pub variant_by : List Variant → Option Instance → Option Variant
variant_by variants None = None
variant_by variants (Some x) = variant_of variants x.task x.kind

abbrev pub variant_in : Resolved → Form → Option Variant
variant_in r f = variant_by r.typed.now.tasks (slice_get r.mapping.now.instances f.instance)

-- a leaf has no maps
abbrev pub maps_of_body : Body → List Map
maps_of_body (body.Inner list) = maps_in list
maps_of_body (body.Leaf list) = []

abbrev pub maps_by : Option Variant → List Map
maps_by None = []
maps_by (Some v) = maps_of_body v.body

-- those of each variant
abbrev pub all_maps : List Variant → List (List Map)
all_maps variants = map (λ v. maps_of_body v.body) variants

-- the maps of a form that run their iterations beside one another, in text order
abbrev pub maps_of_form : Resolved → Form → List Map
maps_of_form r f = maps_by (variant_in r f)

-- the names of a variant's arrays: its parameters, and then its locals
abbrev pub local_names : List Decl → List Bytes
local_names [] = []
local_names (decl.Tunable place name ∷ rest) = local_names rest
local_names (decl.List place name ∷ rest) = local_names rest
local_names (decl.Local place elem name extents ∷ rest) = name ∷ local_names rest
local_names (decl.Rchop place name array sizes ∷ rest) = local_names rest
local_names (decl.Ichop place name array starts ends ∷ rest) = local_names rest

abbrev pub array_names : Option Variant → List Bytes
array_names None = []
array_names (Some v) = map (λ p. p.name) v.params ++ local_names v.decls

-- a race of the form with this number
pub record HoldsAt (r : Resolved) (form : ℕ) (round : List ℕ) (x : Found) : Type 0 where
  pub of : Form
  pub uses : List Use
  pub form_is : slice_get r.forms form ≡ Some of
  pub uses_are : slice_get r.uses form ≡ Some uses
  pub holds : HoldsIn (maps_of_form r of) uses round x

-- what is told of a race: its form, the map's place, the array, and of each access the number of the map's iteration
-- and the block
abbrev pub told : ℕ → Option Variant → Map → Use → Use → Race
told form variant m a b = record {
  form = form;
  place = m.place;
  array = get_or (array_names variant) a.array [];
  iter_a = get_or a.iterations m.depth 0;
  rect_a = a.rect;
  iter_b = get_or b.iterations m.depth 0;
  rect_b = b.rect;
}

-- this is told of a race, and none is before it: by form, and then in the form
pub record IsFirst (r : Resolved) (race : Race) : Type 0 where
  pub form : ℕ
  pub round : List ℕ
  pub found : Found
  pub holds : HoldsAt r form round found
  pub is : race ≡ told form (variant_in r holds.of) holds.holds.map holds.holds.a holds.holds.b
  pub least : (n : ℕ) (s : List ℕ) (y : Found) → HoldsAt r n s y → (form < n) ⊎ ((form ≡ n) × AtOrBefore round found s y)

-- there is no race, or this is the first
abbrev pub IsFirstRace : Resolved → Option Race → Type 0
IsFirstRace r None = (n : ℕ) (s : List ℕ) (y : Found) → HoldsAt r n s y → ⊥
IsFirstRace r (Some race) = IsFirst r race

-- ---- what the code does

-- the number of an instance's variant
abbrev pub number_by : List Variant → Option Instance → Option ℕ
number_by variants None = None
number_by variants (Some x) = first_of_kind x.kind 0 variants x.task

abbrev pub number_in : Resolved → Form → Option ℕ
number_in r f = number_by r.typed.now.tasks (slice_get r.mapping.now.instances f.instance)

abbrev pub listed : Option (List Map) → List Map
listed None = []
listed (Some maps) = maps

-- this is a race, and none of the form is before it
pub record IsFirstIn (maps : List Map) (uses : List Use) (x : Found) : Type 0 where
  pub round : List ℕ
  pub holds : HoldsIn maps uses round x
  pub least : (s : List ℕ) (y : Found) → HoldsIn maps uses s y → AtOrBefore round x s y

-- the form has no race, or this is its first
abbrev pub IsFirstOf : List Map → List Use → Option Found → Type 0
IsFirstOf maps uses None = (s : List ℕ) (y : Found) → HoldsIn maps uses s y → ⊥
IsFirstOf maps uses (Some x) = IsFirstIn maps uses x

-- this is a race, and of the maps from number `from` up to `to` none has one before it
pub record IsFirstOfSome (maps : List Map) (uses : List Use) (from to : ℕ) (x : Found) : Type 0 where
  pub round : List ℕ
  pub holds : HoldsIn maps uses round x
  pub below : x.map < to
  pub least : (s : List ℕ) (y : Found) → HoldsIn maps uses s y → from ≤ y.map → y.map < to → AtOrBefore round x s y

-- these maps have no race, or this is the first of theirs
abbrev pub IsFirstAmong : List Map → List Use → ℕ → ℕ → Option Found → Type 0
IsFirstAmong maps uses from to None = (s : List ℕ) (y : Found) → HoldsIn maps uses s y → from ≤ y.map → y.map < to → ⊥
IsFirstAmong maps uses from to (Some x) = IsFirstOfSome maps uses from to x

-- this is told of the accesses with these numbers
pub record IsTold (form : ℕ) (variant : Option Variant) (maps : List Map) (uses : List Use) (x : Found) (race : Race) : Type 0 where
  pub at : (m : Map) (a b : Use) → slice_get maps x.map ≡ Some m → slice_get uses x.earlier ≡ Some a → slice_get uses x.later ≡ Some b → race ≡ told form variant m a b

-- of the first `upto` forms none has a race
pub record NoneOfForms (r : Resolved) (upto : ℕ) : Type 0 where
  pub at : (n : ℕ) (s : List ℕ) (y : Found) → HoldsAt r n s y → n < upto → ⊥

-- the first race of the form of this number
pub record IsFirstHere (r : Resolved) (number : ℕ) (race : Race) : Type 0 where
  pub round : List ℕ
  pub found : Found
  pub holds : HoldsAt r number round found
  pub is : race ≡ told number (variant_in r holds.of) holds.holds.map holds.holds.a holds.holds.b
  pub least : (s : List ℕ) (y : Found) → HoldsAt r number s y → AtOrBefore round found s y

abbrev pub IsFirstOfForm : Resolved → ℕ → Option Race → Type 0
IsFirstOfForm r number None = (s : List ℕ) (y : Found) → HoldsAt r number s y → ⊥
IsFirstOfForm r number (Some race) = IsFirstHere r number race
