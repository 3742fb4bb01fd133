-- The text of a program's plan file, read again: a plan file without faults that runs as the program.
use Rattle.std.specs.Prelude.{◌≡◌, ℕ, List, Some, Ok, Err}
use Rattle.sq_text.specs.declared.fault.Fault.{Fault}
use Rattle.sq_leaf.specs.declared.shape.Shape.{Shape}
use Rattle.sq_leaf.specs.declared.trap.Trap.{Trap as LeafTrap}
use Rattle.sq_leaf.specs.Source.{Arrays}
use Rattle.sq_work.specs.Meaning.{Outcome}
use Rattle.sq_ir.specs.Runs.{End, exec}
use Rattle.sq_ir.specs.Events.{Bytes, meaning}
use Rattle.sq_ir.specs.DraftLeaves.{leaves_of}
use Rattle.sq_ir.specs.Written.{Setting}
use Rattle.sq_ir.specs.Plans.{setting_of, tree_of}
use Rattle.sq_ir.specs.declared.plan.Plan.{Plan}
use Rattle.sq_spec.specs.Works.{flat}
use Rattle.sq_spec.specs.declared.resolved.Resolved.{Resolved}
use Rattle.sq_meant.specs.PlanGood.DraftLaws.PlanLaws.Entry.{EndsSo}
use Rattle.sq_meant.specs.PlanGood.Good.{shapes_in, IsInput}
use Rattle.sq_planfile.specs.File.{PlanFile}
use Rattle.sq_planfile.specs.Limits.{TextFault}
use Rattle.sq_filed_laws.specs.Filed.{IsFiled}
use Rattle.sq_compiled_laws.specs.Compiled.{IsCompiled}

-- A run ends with the arrays that are meant, or with the trap that is, but for the trap's place.
abbrev pub EndsLike : Setting → List Shape → (buffers : List ℕ) → Outcome → End Bytes LeafTrap → Type 0
EndsLike s shapes buffers (Ok after) e = EndsSo s shapes buffers (Ok after) e
EndsLike s shapes buffers (Err x) e = (its : LeafTrap) × (e.trap ≡ Some (record { path = x.path; cause = its }))
    × (its.kind ≡ x.trap.kind)

-- So does the run under picks 0 of this file's plan, from all bytes that hold what the entry of the program reads in its
-- own plan.
abbrev pub RunsAsMeant : Resolved → (its : Plan) → (file : PlanFile) → Type 0
RunsAsMeant r p g = (a : Arrays) (m : Bytes) → IsInput r p a m
    → EndsLike (setting_of g.plan) (shapes_in r) g.plan.draft.entry (flat r.typed.now r.mapping.now a)
    (exec (meaning (leaves_of g.plan.draft)) (tree_of g.plan) m)

-- What the file's text stands for, and for nothing else does, has no fault, is the same file but for places, and runs as
-- the program means.
pub record IsRefiled (r : Resolved) (f : PlanFile) : Type 0 where
  pub read : IsFiled f
  pub meant : RunsAsMeant r f.plan read.file

abbrev pub CompiledAreRefiled : Type 0
CompiledAreRefiled = (r : Resolved) (f : PlanFile) → IsCompiled r f → ((its : Fault) → TextFault f its → ⊥)
    → IsRefiled r f
