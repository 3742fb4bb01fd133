-- A plan file: a plan, and the arrays that it works on.
use Rattle.std.specs.Prelude.{ℕ, List, [], ◌∷◌}
use Rattle.sq_ast.specs.declared.program.Param.{Param}
use Rattle.sq_ir.specs.declared.plan.Plan.{Plan}
use Rattle.sq_planfile.specs.declared.entry.EntryArray.{EntryArray}

pub record PlanFile : Type 0 where
  pub plan : Plan
  pub arrays : List EntryArray

-- the arrays of these parameters, with these extents and buffers
abbrev pub entry_arrays : List Param → (extents : List (List ℕ)) → (buffers : List ℕ) → List EntryArray
entry_arrays [] extents buffers = []
entry_arrays (p ∷ ps) [] buffers = []
entry_arrays (p ∷ ps) (e ∷ extents) [] = []
entry_arrays (p ∷ ps) (e ∷ extents) (b ∷ buffers) =
    record { mode = p.mode; elem = p.elem; name = p.name; extents = e; buffer = b } ∷ entry_arrays ps extents buffers
