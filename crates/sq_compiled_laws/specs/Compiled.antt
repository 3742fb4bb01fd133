-- The plan file of a program's plan: what its lines are, which can be read, and are sound.
use Rattle.std.specs.Prelude.{◌≡◌, ◌≤◌, ℕ, List, Ok, slice_get}
use Rattle.std.specs.List.{All}
use Rattle.sq_text.specs.declared.code.Phase.TheVariants.{Plan as PlanPhase}
use Rattle.sq_lexer.specs.Faults.{FitsFile}
use Rattle.sq_ast.specs.Given.{IsGiven}
use Rattle.sq_ast.specs.declared.program.Param.{Param}
use Rattle.sq_machfile.specs.Machines.{WithinLimits}
use Rattle.sq_mapfile.specs.Mappings.{StandsFor}
use Rattle.sq_forms.specs.Resolving.{entry_params, entry_extents}
use Rattle.sq_ir.specs.declared.plan.Plan.{Plan}
use Rattle.sq_spec.specs.declared.resolved.Resolved.{Resolved}
use Rattle.sq_meant.specs.PlanGood.Planned.{IsPlacedFor, IsGoodPlan}
use Rattle.sq_plantext.specs.Grammar.{most_levels}
use Rattle.sq_plantext.specs.Layout.{laid_out}
use Rattle.sq_planfile.specs.File.{PlanFile, entry_arrays}
use Rattle.sq_planfile.specs.Files.{numbers_of}
use Rattle.sq_planfile.specs.Limits.{depth}
use Rattle.sq_planfile.specs.Sound.{IsLeafText}
use Rattle.sq_planfile.specs.Written.{text_of, written}
use Rattle.sq_filed_laws.specs.LayoutLaws.Readable.{IsReadable, IsReadableLeaf}
use Rattle.sq_filed_laws.specs.WrittenLaws.Again.{IsInOrder, HasSoundHeads}

-- ---- what is known

-- the program and the mapping were read from texts, and the machine keeps the limits
pub record IsRead (r : Resolved) : Type 0 where
  pub program : IsGiven r.typed.now
  pub mapping_text : List ℕ
  pub mapping : StandsFor r.machine.now.levels mapping_text r.mapping.now
  pub within : WithinLimits r.machine.now

-- the parameters of the entry's variant
abbrev pub params_of : Resolved → List Param
params_of r = entry_params r.typed.now.tasks (slice_get r.mapping.now.instances r.mapping.now.entry)

-- the plan, with the entry's arrays in the buffers that it has for them
pub record IsFileOf (r : Resolved) (p : Plan) (f : PlanFile) : Type 0 where
  pub plan_is : f.plan ≡ p
  pub extents : List (List ℕ)
  pub extents_are : entry_extents r.mapping.now.sizes (params_of r) ≡ Ok extents
  pub arrays_are : f.arrays ≡ entry_arrays (params_of r) extents p.draft.entry

-- the file of the program's plan
pub record IsCompiled (r : Resolved) (f : PlanFile) : Type 0 where
  pub read : IsRead r
  pub placed : IsPlacedFor r f.plan
  pub good : IsGoodPlan r f.plan
  pub file : IsFileOf r f.plan f

-- ---- what follows

-- The numbers of each leaf are those of its task's names in the order of the text, and its line is sound and can be
-- read.
pub record HasSoundLeaves (f : PlanFile) : Type 0 where
  pub numbers : All (λ l. numbers_of (text_of l) ≡ l.code.numbers) f.plan.draft.leaves
  pub sound : All IsLeafText (written f).leaves
  pub readable : All IsReadableLeaf (written f).leaves

abbrev pub CompiledLeavesAreSound : Type 0
CompiledLeavesAreSound = (r : Resolved) (f : PlanFile) → IsCompiled r f → HasSoundLeaves f

-- So it is a file that stays the same plan when it is written out, and whose lines are sound.
abbrev pub CompiledAreInOrder : Type 0
CompiledAreInOrder = (r : Resolved) (f : PlanFile) → IsCompiled r f → IsInOrder f

abbrev pub CompiledHaveSoundHeads : Type 0
CompiledHaveSoundHeads = (r : Resolved) (f : PlanFile) → IsCompiled r f → HasSoundHeads f

-- Where it hasn't too many levels and its text isn't too long, its lines can be read.
abbrev pub CompiledAreReadable : Type 0
CompiledAreReadable = (r : Resolved) (f : PlanFile) → IsCompiled r f → depth (written f).term ≤ most_levels
    → FitsFile PlanPhase (laid_out (written f)) → IsReadable (written f)
