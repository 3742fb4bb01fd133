-- The call of a `mapreduce` has the array that is reduced into once, whole, for an `inout` parameter.
use Rattle.std.specs.Prelude.{◌≡◌, ℕ, true, false, List, Some, None, Ok, slice_get}
use Rattle.std.specs.Map.{lookup}
use Rattle.sq_text.specs.Names.{Bytes, same_name}
use Rattle.sq_ast.specs.Forms.{is_formed}
use Rattle.sq_ast.specs.declared.program.Body.TheVariants.{Inner}
use Rattle.sq_ast.specs.declared.program.Mode.TheVariants.{Both}
use Rattle.sq_ast.specs.declared.program.Param.{Param}
use Rattle.sq_ast.specs.declared.program.Program.{Program}
use Rattle.sq_ast.specs.declared.program.Variant.{Variant}
use Rattle.sq_ast.specs.declared.stmt.Call.{Call}
use Rattle.sq_ast.specs.declared.stmt.Stmt.{Stmt}
use Rattle.sq_machfile.specs.declared.level.Level.{Level}
use Rattle.sq_forms.specs.Mappings.declared.mapping.Instance.{Instance}
use Rattle.sq_forms.specs.Mappings.declared.mapping.Mapping.{Mapping}
use Rattle.sq_forms.specs.Mappings.Sound.{Sound}
use Rattle.sq_types.specs.Sound.{is_sound}
use Rattle.sq_blocks.specs.Names.{Numbers}
use Rattle.sq_blocks.specs.Spans.{wholes}
use Rattle.sq_blocks.specs.declared.argument.Argument.{Argument}
use Rattle.sq_forms.specs.declared.form.Found.{Found}
use Rattle.sq_forms.specs.declared.known.Array.{Array}
use Rattle.sq_forms.specs.Args.{Names}
use Rattle.sq_forms.specs.Decls.{Scope, empty_scope, params_from, all_declared}
use Rattle.sq_spec.specs.FormLaws.Reached.{AreExamined}
use Rattle.sq_forms.specs.Resolving.{frame_in}
use Rattle.sq_spec_laws.specs.TableRows.{summed_in}
use Rattle.sq_forms.specs.Tables.{variant_of}
use Rattle.sq_forms.specs.Worlds.{Callee, callee_of}

-- all of the array of this name
pub record WholeOf (names : Names) (name : Bytes) (x : Argument) : Type 0 where
  pub array : Array
  pub is : lookup (same_name name) names.arrays ≡ Some array
  pub number : x.array ≡ array.number
  pub whole : wholes array.extents ≡ Some x.rect

-- one argument, and no other, is what is reduced into
pub record IsSum (names : Names) (name : Bytes) (xs : List Argument) : Type 0 where
  pub at : ℕ
  pub sum : Argument
  pub there : slice_get xs at ≡ Some sum
  pub reduced : sum.is_reduced ≡ true
  pub mode : sum.mode ≡ Both
  pub of : WholeOf names name sum
  pub others : (i : ℕ) (a : Argument) → slice_get xs i ≡ Some a → (i ≡ at → ⊥) → a.is_reduced ≡ false

-- Of each call in the text of a form that stands right in a `mapreduce`, whatever its names and numbers.
abbrev pub SumsAreWhole : Type 0
SumsAreWhole = (program : Program) (levels : List Level) (mapping : Mapping) → is_formed program ≡ true
    → is_sound program ≡ true → Sound program levels mapping
    → (number : ℕ) (x : Instance) (v : Variant) → slice_get mapping.instances number ≡ Some x
    → variant_of program.tasks x.task x.kind ≡ Some v
    → (list : List Stmt) → v.body ≡ Inner list → (i : ℕ) (name : Bytes) (c : Call)
    → slice_get (summed_in list None) i ≡ Some (Some name, c)
    → (k : ℕ) (f : Found) (names : Names) (numbers : Numbers) (callee : Callee)
    → callee_of (frame_in program.tasks mapping.instances x k f) c.task ≡ Some callee
    → (xs : List Argument) → AreExamined names numbers (Some name) callee.params 0 c.args xs → IsSum names name xs

-- And no other argument of such a call is of the array that is reduced into: in a form, by its own names.
abbrev pub SumsAreAlone : Type 0
SumsAreAlone = (program : Program) (levels : List Level) (mapping : Mapping) → is_formed program ≡ true
    → is_sound program ≡ true → Sound program levels mapping
    → (x : Instance) (v : Variant) → variant_of program.tasks x.task x.kind ≡ Some v
    → (list : List Stmt) → v.body ≡ Inner list → (i : ℕ) (name : Bytes) (c : Call)
    → slice_get (summed_in list None) i ≡ Some (Some name, c)
    → (extents : List (List ℕ)) (begun scope : Scope) → params_from empty_scope v.params 0 extents ≡ Some begun
    → all_declared x.tunings begun v.decls ≡ Ok scope
    → (numbers : Numbers) (params : List Param) (xs : List Argument)
    → AreExamined scope.names numbers (Some name) params 0 c.args xs
    → (j : ℕ) (a : Argument) → slice_get xs j ≡ Some a → a.is_reduced ≡ false
    → (array : Array) → lookup (same_name name) scope.names.arrays ≡ Some array → a.array ≡ array.number → ⊥
