-- The maps of statements that run their iterations beside one another, in text order.
use Rattle.std.specs.Prelude.{◌≡◌, ℕ, ◌+◌, List, [], ◌∷◌, ◌++◌, map, Option, Some, None, if◌then◌else◌}
use Rattle.sq_text.specs.declared.place.Place.{Place}
use Rattle.sq_text.specs.declared.place.Span.{Span}
use Rattle.sq_text.specs.Names.{Bytes, same_name}
use Rattle.sq_ast.specs.declared.expr.ArgUse.{ArgUse, out-ArgUse}
use Rattle.sq_ast.specs.declared.stmt.MapKind.{MapKind}
use Rattle.sq_ast.specs.declared.stmt.MapKind.TheVariants.{Par, Seq, Reduce}
use Rattle.sq_ast.specs.declared.stmt.Stmt.{Stmt}
use Rattle.sq_ast.specs.declared.stmt.Stmt.TheOpen.{Stmt-F}
use Rattle.sq_ast.specs.declared.stmt.Stmt.TheFolds.{fold-Stmt}
use Rattle.sq_race.specs.declared.map.Map.{Map}

-- the first argument of this name, by its number from i on
abbrev pub position_from : Bytes → List ArgUse → ℕ → Option ℕ
position_from name [] i = None
position_from name (a ∷ rest) i = if same_name (out-ArgUse a).name name then Some i else position_from name rest (i + 1)

-- What stands in a statement: how many calls; of a call where an argument of a name stands; and the maps, by the number
-- of maps round it and of its first call, before further ones.
pub record Portion : Type 0 where
  pub calls : ℕ
  pub position : Bytes → Option ℕ
  pub maps : ℕ → ℕ → List Map → List Map

-- calls are numbered in text order
abbrev pub calls_of : List Portion → ℕ
calls_of [] = 0
calls_of (p ∷ ps) = p.calls + calls_of ps

abbrev pub maps_of : List Portion → ℕ → ℕ → List Map → List Map
maps_of [] depth first later = later
maps_of (p ∷ ps) depth first later = p.maps depth first (maps_of ps depth (first + p.calls) later)

-- where the array that is reduced into stands among the arguments of the one call
abbrev pub reduced_in : List Portion → Bytes → Option ℕ
reduced_in [] name = None
reduced_in (p ∷ ps) name = p.position name

-- a `mapseq` is no such map
abbrev pub row_of : Place → MapKind → List Portion → ℕ → Span → Option Map
row_of place Par body depth calls = Some (record { place = place; depth = depth; calls = calls; reduced = None })
row_of place Seq body depth calls = None
row_of place (Reduce op array) body depth calls = Some (record { place = place; depth = depth; calls = calls; reduced = reduced_in body array.name })

abbrev pub with_row : Option Map → List Map → List Map
with_row None later = later
with_row (Some m) later = m ∷ later

abbrev pub map_maps : Place → MapKind → List Portion → ℕ → ℕ → List Map → List Map
map_maps place kind body depth first later =
    with_row (row_of place kind body depth (record { lo = first; hi = first + calls_of body })) (maps_of body (depth + 1) first later)

abbrev pub stmt_step : Stmt-F Portion → Portion
stmt_step (Stmt-F.Call c) = record { calls = 1; position = λ name. position_from name c.args 0; maps = λ depth first later. later }
stmt_step (Stmt-F.Map place kind ranges body) = record { calls = calls_of body; position = λ name. None; maps = map_maps place kind body }

abbrev pub portion : Stmt → Portion
portion = fold-Stmt Portion stmt_step

-- the maps of statements
abbrev pub maps_in : List Stmt → List Map
maps_in list = maps_of (map portion list) 0 0 []

-- ---- what the code does

abbrev pub Adds : List Map → List Map → (List Map → List Map) → Type 0
Adds old new part = (later : List Map) → new ++ later ≡ old ++ part later
