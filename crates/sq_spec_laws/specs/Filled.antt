-- Each call of a form's tables has a row for each time that it is begun.
use Rattle.std.specs.Prelude.{◌≡◌, ℕ, zero, suc, ◌+◌, Bool, true, ◌&&◌, List, [], ◌∷◌, map, get_or, slice_get, Some, is_some, IsSome}
use Rattle.sq_num.specs.declared.Elem.{Elem}
use Rattle.sq_ast.specs.declared.program.Body.TheVariants.{Inner}
use Rattle.sq_ast.specs.declared.program.Program.{Program}
use Rattle.sq_ast.specs.declared.program.Variant.{Variant}
use Rattle.sq_ast.specs.declared.stmt.Call.{Call}
use Rattle.sq_ast.specs.declared.stmt.Stmt.{Stmt}
use Rattle.sq_machfile.specs.declared.level.Level.{Level}
use Rattle.sq_forms.specs.Mappings.declared.mapping.Instance.{Instance}
use Rattle.sq_forms.specs.Mappings.declared.mapping.Mapping.{Mapping}
use Rattle.sq_forms.specs.Mappings.Sound.{Sound}
use Rattle.sq_blocks.specs.Names.{Numbers}
use Rattle.sq_spec.specs.declared.statement.Statement.{Statement}
use Rattle.sq_spec.specs.declared.statement.Statement.TheOpen.{Statement-F}
use Rattle.sq_spec.specs.declared.statement.Statement.TheFolds.{fold-Statement}
use Rattle.sq_forms.specs.declared.form.Found.{Found}
use Rattle.sq_forms.specs.Args.{Names}
use Rattle.sq_spec.specs.Statements.{tables}
use Rattle.sq_spec.specs.FormLaws.Reached.{concat, text_calls}
use Rattle.sq_forms.specs.Resolving.{frame_in}
use Rattle.sq_forms.specs.Steps.{Forms}
use Rattle.sq_forms.specs.Tables.{variant_of}
use Rattle.sq_forms.specs.Worlds.{Frame, callee_of}

abbrev pub all_below : ℕ → (ℕ → Bool) → Bool
all_below zero f = true
all_below (suc n) f = f n && all_below n f

abbrev pub all_filled : List (ℕ → Bool) → ℕ → Bool
all_filled [] k = true
all_filled (f ∷ fs) k = f k && all_filled fs k

abbrev pub filled_step : Statement-F (ℕ → Bool) → ℕ → Bool
filled_step (Statement-F.Call lower times) k = is_some (slice_get times k)
filled_step (Statement-F.Map place kind counts starts parts) k =
    all_below (get_or counts k 0) (λ t. all_filled parts (get_or starts k 0 + t))

-- a statement that is begun for the k-th time has a row there, and each statement in it for each of its times
abbrev pub filled : Statement → ℕ → Bool
filled = fold-Statement (ℕ → Bool) filled_step

abbrev pub are_filled : List Statement → Bool
are_filled list = all_filled (map filled list) 0

-- Where an instance serves each call, the tables of statements are filled.
abbrev pub ServedAreFull : Type 0
ServedAreFull = (forms : Forms) (frame : Frame) (names : Names) (elems : List Elem) (numbers : Numbers)
    (list : List Stmt)
    → ((i : ℕ) (c : Call) → slice_get (concat (map text_calls list)) i ≡ Some c → IsSome (callee_of frame c.task))
    → are_filled (tables forms frame names elems numbers list) ≡ true

-- So the tables of each form are, under a mapping that was read.
abbrev pub TablesAreFull : Type 0
TablesAreFull = (program : Program) (levels : List Level) (mapping : Mapping) → Sound program levels mapping
    → (number : ℕ) (x : Instance) (v : Variant)
    → slice_get mapping.instances number ≡ Some x → variant_of program.tasks x.task x.kind ≡ Some v → (list : List Stmt)
    → v.body ≡ Inner list
    → (forms : Forms) (k : ℕ) (f : Found) (names : Names) (elems : List Elem) (numbers : Numbers)
    → are_filled (tables forms (frame_in program.tasks mapping.instances x k f) names elems numbers list) ≡ true
