-- Where the arrays of a program's entry stand in the root's memory.
use Rattle.std.specs.Prelude.{ℕ, Bool, List, map}
use Rattle.sq_ast.specs.declared.program.Param.{Param}
use Rattle.sq_ast.specs.Modes.{is_read}
use Rattle.sq_ir.specs.declared.plan.Plan.{Plan}
use Rattle.sq_spec.specs.Works.{param_shapes}
use Rattle.sq_root.specs.declared.place.Place.{Place}
use Rattle.sq_compiled_laws.specs.Meant.Places.{places_of}

-- the arrays of these parameters, with these extents
abbrev pub places_for : Plan → List Param → List (List ℕ) → List Place
places_for plan ps extents = places_of plan (param_shapes ps 0 extents)

-- which of them are read
abbrev pub read_flags : List Param → List Bool
read_flags ps = map (λ p. is_read p.mode) ps
