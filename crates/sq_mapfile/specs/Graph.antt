-- The calls of a mapping as they are gathered, the graph that they make, and the search for the first on a cycle.
use Rattle.std.specs.Prelude.{◌≡◌, ℕ, suc, ◌<◌, ◌≤◌, Bool, false, ◌||◌, List, [], ◌∷◌, ◌++◌, length, nat_eq, nat_lt, if◌then◌else◌, Option, Some, None, slice_index_or}
use Rattle.std.specs.List.{list_any}
use Rattle.std.specs.Option.{option_map}
use Rattle.sq_text.specs.First.{HoldsIn}
use Rattle.sq_text.specs.Faults.{IsFirst}
use Rattle.sq_text.specs.Places.{is_before, is_same}
use Rattle.sq_mapfile.specs.Cycles.{CallText, IsOnCycle, cycle_at}
use Rattle.sq_mapfile.specs.Names.{stands_before, index_of, call_index}
use Rattle.sq_mapfile.specs.declared.text.ItemText.{ItemText}
use Rattle.sq_mapfile.specs.declared.text.ItemText.TheVariants.{Tunable, Call, Spread}
use Rattle.sq_mapfile.specs.declared.text.InstanceText.{InstanceText}
use Rattle.sq_text.specs.declared.word.Word.{Word}

-- ---- gathered

-- the calls of a part, and then others
abbrev pub Part : Type 0
Part = List CallText → List CallText

-- the call of an instance, where there is one of the name
abbrev pub call_to : ℕ → Option ℕ → Word → Part
call_to caller None name later = later
call_to caller (Some callee) name later = record { caller = caller; callee = callee; name = name } ∷ later

-- the call of the k-th of these items: of two items for one task the first counts
abbrev pub item_calls : List InstanceText → ℕ → List ItemText → ℕ → ItemText → Part
item_calls instances caller items k (Tunable name values) later = later
item_calls instances caller items k (Call task name) later =
    if stands_before (call_index items task.name) k then later else call_to caller (index_of instances name.name) name later
item_calls instances caller items k (Spread word rule) later = later

-- those of the items from the k-th on
abbrev pub items_calls : List InstanceText → ℕ → List ItemText → ℕ → List ItemText → Part
items_calls instances caller items k [] later = later
items_calls instances caller items k (x ∷ rest) later = item_calls instances caller items k x (items_calls instances caller items (suc k) rest later)

-- those of the i-th instance: of two instances of a name the first counts
abbrev pub instance_calls : List InstanceText → ℕ → InstanceText → Part
instance_calls instances i x later =
    if stands_before (index_of instances x.name.name) i then later else items_calls instances i x.items 0 x.items later

-- those of the instances from the i-th on
abbrev pub calls_from : List InstanceText → ℕ → List InstanceText → List CallText
calls_from instances i [] = []
calls_from instances i (x ∷ rest) = instance_calls instances i x (calls_from instances (suc i) rest)

abbrev pub gathered : List InstanceText → List CallText
gathered instances = calls_from instances 0 instances

-- the calls of a part come behind those that there were
abbrev pub Adds : List CallText → List CallText → Part → Type 0
Adds old new part = (later : List CallText) → new ++ later ≡ old ++ part later

-- ---- the graph

-- caller and callee are among so many instances
abbrev pub IsWithin : ℕ → CallText → Type 0
IsWithin count call = (call.caller < count) × (call.callee < count)

-- the instances that an instance calls
abbrev pub callees_of : List CallText → ℕ → List ℕ
callees_of [] a = []
callees_of (call ∷ rest) a = if nat_eq call.caller a then call.callee ∷ callees_of rest a else callees_of rest a

-- one call more in the lists of what the instances call
abbrev pub AddsCallee : List (List ℕ) → CallText → List (List ℕ) → Type 0
AddsCallee old call new =
    (a : ℕ) (rest : List CallText) → a < length old → slice_index_or new a [] ++ callees_of rest a ≡ slice_index_or old a [] ++ callees_of (call ∷ rest) a

-- ---- walks

abbrev pub has : List ℕ → ℕ → Bool
has xs x = list_any (nat_eq x) xs

-- the keys of a set after others are inserted
abbrev pub with_one : List ℕ → ℕ → List ℕ
with_one seen x = if has seen x then seen else seen ++ x ∷ []

abbrev pub with_all : List ℕ → List ℕ → List ℕ
with_all seen [] = seen
with_all seen (x ∷ xs) = with_all (with_one seen x) xs

-- ---- ranks

-- an instance without a rank has 0
abbrev pub rank_of : List ℕ → ℕ → ℕ
rank_of ranks i = slice_index_or ranks i 0

-- the call doesn't lead to a higher rank
abbrev pub NeverRises : List ℕ → CallText → Type 0
NeverRises ranks call = rank_of ranks call.callee ≤ rank_of ranks call.caller

-- the call leads to a lower rank
abbrev pub falls : List ℕ → CallText → Bool
falls ranks call = nat_lt (rank_of ranks call.callee) (rank_of ranks call.caller)

-- ---- the first call on a cycle

-- what is found is no later in the text than the call
abbrev pub is_behind : Option CallText → CallText → Bool
is_behind None call = false
is_behind (Some first) call = is_before first.name.place call.name.place || is_same first.name.place call.name.place

-- of the calls that are looked at, this is the first on a cycle of all calls
abbrev pub IsFirstOnCycle : List CallText → List CallText → Option CallText → Type 0
IsFirstOnCycle calls part found = IsFirst (HoldsIn (IsOnCycle calls) part) (option_map cycle_at found)
