-- How often the statements of a form are begun.
use Rattle.std.specs.Prelude.{◌≡◌, ◌==◌, ℕ, suc, ◌<◌, ◌≤◌, true, List, [], ◌∷◌, ◌++◌, map, length, slice_get, Some}
use Rattle.sq_num.specs.declared.Elem.{Elem}
use Rattle.sq_ast.specs.declared.stmt.Call.{Call}
use Rattle.sq_ast.specs.declared.stmt.Range.{Range}
use Rattle.sq_ast.specs.declared.stmt.Stmt.{Stmt}
use Rattle.sq_ast.specs.declared.stmt.Stmt.TheOpen.{Stmt-F}
use Rattle.sq_ast.specs.declared.stmt.Stmt.TheFolds.{fold-Stmt}
use Rattle.sq_blocks.specs.Names.{Numbers}
use Rattle.sq_forms.specs.Args.{Names}
use Rattle.sq_forms.specs.Steps.{Forms}
use Rattle.sq_forms.specs.Worlds.{Frame, Callee, callee_of}
use Rattle.sq_spec.specs.FormLaws.Reached.{concat, text_calls}
use Rattle.sq_spec.specs.Statements.{iteration_points, tables}
use Rattle.sq_term_laws.specs.Fits.{Bounds, all_parts, Tabled}

-- the ranges of maps that stand within one another, the outermost first
abbrev pub Nest : Type 0
Nest = List (List Range)

abbrev pub joined : List (List Nest) → List Nest
joined [] = []
joined (x ∷ xs) = x ++ joined xs

abbrev pub nests_step : Stmt-F (List Nest) → List Nest
nests_step (Stmt-F.Call c) = []
nests_step (Stmt-F.Map place kind ranges parts) = map (λ n. ranges ∷ n) ([] ∷ joined parts)

-- each map that stands in it, with those round it there
abbrev pub nests_of : Stmt → List Nest
nests_of = fold-Stmt (List Nest) nests_step

-- how often the body of the innermost of them is begun, in one run of a form
abbrev pub times_begun : Names → Numbers → Nest → ℕ
times_begun names numbers nest = length (iteration_points nest names.lists numbers)

abbrev pub AreFew : (most : ℕ) → Names → Numbers → (outer : Nest) → List Nest → Type 0
AreFew most names numbers outer [] = Unit {0}
AreFew most names numbers outer (n ∷ ns) = (times_begun names numbers (outer ++ n) ≤ most)
    × AreFew most names numbers outer ns

-- an instance serves the call, and at a lower level there is one
pub record IsServed (frame : Frame) (last : ℕ) (c : Call) : Type 0 where
  pub callee : Callee
  pub is : callee_of frame c.task ≡ Some callee
  pub deep : (callee.level == suc frame.level) ≡ true → frame.level < last

-- Where an instance serves each call and no map's body is begun too often, the tables of a form's statements are as a
-- built term asks.
abbrev pub TablesAreBegun : Type 0
TablesAreBegun = (most : Bounds) (last : ℕ) (forms : Forms) (frame : Frame) (names : Names) (elems : List Elem)
    (numbers : Numbers) (list : List Stmt)
    → ((i : ℕ) (c : Call) → slice_get (concat (map text_calls list)) i ≡ Some c → IsServed frame last c)
    → 1 ≤ most.uses → AreFew most.uses names numbers [] (joined (map nests_of list))
    → all_parts (Tabled most last frame.level) (tables forms frame names elems numbers list) 1
